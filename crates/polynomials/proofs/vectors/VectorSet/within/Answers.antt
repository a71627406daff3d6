use Rattle.std.proofs.Common.{arith, rules}
use Rattle.polynomials.proofs.Results.{within_is}
use Rattle.polynomials.proofs.vectors.VectorSet.within.Goals as goal

pub returns : goal.returns
returns c = within_is c.args.self c.args.other c.intersection.result c.intersection.ensures c.eq.result (omega arith) (omega arith) (search rules)
