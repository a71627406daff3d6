use Rattle.std.proofs.Common.{◌≡◌, length}
use Rattle.progression.specs.Tables.{Tabled}
use Rattle.progression.proofs.plan.Plan.node_tables.Given as goal

abbrev pub invariant-loop-j : goal.invariant-loop-j
invariant-loop-j l = (length l.tables ≡ 64) × Tabled l.self.rule l.letters l.j l.tables
