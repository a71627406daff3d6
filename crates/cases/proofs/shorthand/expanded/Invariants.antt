use Rattle.std.proofs.Common.{length}
use Rattle.cases.proofs.shorthand.expanded.Given as goal

abbrev pub decreases-loop-front : goal.decreases-loop-front
decreases-loop-front l = length l.rest
