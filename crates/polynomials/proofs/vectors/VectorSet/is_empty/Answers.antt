use Rattle.std.proofs.Common.{arith, rules}
use Rattle.polynomials.proofs.Results.{empty_is}
use Rattle.polynomials.proofs.vectors.VectorSet.is_empty.Goals as goal

pub returns : goal.returns
returns c = empty_is c.args.self (omega arith) c.eq.result (search rules)
