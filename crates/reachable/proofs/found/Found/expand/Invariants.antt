use Rattle.reachable.specs.Found.{Expanded}
use Rattle.reachable.proofs.found.Found.expand.Given as goal

abbrev pub invariant-loop-a : goal.invariant-loop-a
invariant-loop-a g l = Expanded (g.M.Machine.moves l.m) l.a l.v l.initial.self l.self
