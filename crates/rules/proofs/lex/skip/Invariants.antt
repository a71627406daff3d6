use Rattle.std.proofs.Common.{◌≡◌, length}
use Rattle.rules.specs.Signs.{skipped}
use Rattle.rules.proofs.lex.skip.Given as goal

abbrev pub invariant-loop-s : goal.invariant-loop-s
invariant-loop-s l = skipped l.s ≡ skipped l.initial.s

abbrev pub decreases-loop-s : goal.decreases-loop-s
decreases-loop-s l = length l.s
