use Rattle.std.proofs.Common.{arith, rules}
use Rattle.polynomials.proofs.Results.{same_values}
use Rattle.polynomials.proofs.residual.Residual.same.Goals as goal

pub returns-clause-values : goal.returns-clause-values
returns-clause-values c = same_values c.args.self c.args.other (omega arith) (omega arith) c.eq.result (search rules)
