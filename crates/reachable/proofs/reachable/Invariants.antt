use Rattle.std.proofs.Common.{◌-◌}
use Rattle.reachable.proofs.Search.{Progress}
use Rattle.reachable.proofs.reachable.Given as goal

abbrev pub invariant-loop-v : goal.invariant-loop-v
invariant-loop-v g l = Progress (g.M.Machine.moves l.m) l.found

abbrev pub decreases-loop-v : goal.decreases-loop-v
decreases-loop-v g l = 256 - l.found.done
