use Rattle.rules.specs.Rules.{nodes_of, node_count}
use Rattle.verdicts.specs.Outcome.{recorded}
use Rattle.verdicts.proofs.Fill.{Going}
use Rattle.verdicts.proofs.backward.fill.Given as goal

abbrev pub invariant-loop-p : goal.invariant-loop-p
invariant-loop-p g l = Going g.S.Scale.ops (nodes_of l.rule) (node_count l.rule) l.n l.p (recorded l.rule l.n l.valuation) l.initial.next l.here l.next
