use Rattle.std.proofs.Common.{◌≤◌, vec_len}
use Rattle.files.proofs.event_lines.events.Given as goal

abbrev pub invariant-loop-line : goal.invariant-loop-line
invariant-loop-line g l =
    (goal.iterator-loop-line g).can_next l.line-iterator
    × (goal.iterator-loop-line g).is_finite l.line-iterator
    × (vec_len l.trace ≤ 4095)
