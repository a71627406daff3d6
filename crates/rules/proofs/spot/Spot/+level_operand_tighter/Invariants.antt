use Rattle.std.proofs.Common.{◌+◌, ◌-◌, ◌*◌, length}
use Rattle.rules.specs.declared.rule.Table.{Table}
use Rattle.rules.proofs.Levels.{Sofar}
use Rattle.rules.proofs.spot.Spot.+level_operand_tighter.Given as goal

-- the bytes that are left, and at the same place what binds tighter is less
abbrev pub decreases-operand : goal.decreases-operand
decreases-operand l = 16 * length l.s.now

abbrev pub decreases-tighter : goal.decreases-tighter
decreases-tighter l = 16 * length l.s.now + (13 - 2 * l.k)

abbrev pub decreases-level : goal.decreases-level
decreases-level l = 16 * length l.s.now + (14 - 2 * l.k)

abbrev pub invariant-level-loop-b : goal.invariant-level-loop-b
invariant-level-loop-b l =
    (a : Table) → Sofar l.self.total l.k l.s l.initial.rest l.self.depth l.self.pending a l.initial.table l.initial.left → Sofar l.self.total l.k l.s l.rest l.self.depth l.self.pending a l.table l.left

abbrev pub decreases-level-loop-b : goal.decreases-level-loop-b
decreases-level-loop-b l = length l.rest
