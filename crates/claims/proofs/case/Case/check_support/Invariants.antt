use Rattle.std.proofs.Common.{◌≡◌, None}
use Rattle.rules.specs.First.{first}
use Rattle.claims.specs.Claims.{unsupported_at}
use Rattle.claims.specs.Posed.{posed}
use Rattle.claims.proofs.case.Case.check_support.Given as goal

abbrev pub invariant-loop-i : goal.invariant-loop-i
invariant-loop-i g l = first l.i (unsupported_at (posed g.R.Reading.meaning l.self) l.claims) ≡ None
