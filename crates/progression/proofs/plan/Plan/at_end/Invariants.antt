use Rattle.std.proofs.Common.{◌≡◌, ◌&&◌, ltb, []}
use Rattle.rules.specs.Tree.{decode}
use Rattle.verdicts.specs.Meaning.{means}
use Rattle.verdicts.specs.YesNo.{yes_no}
use Rattle.polynomials.specs.Sets.{set_below}
use Rattle.progression.specs.Obligations.{node_of, obligations, place}
use Rattle.progression.specs.Progress.{is_kept}
use Rattle.progression.proofs.plan.Plan.at_end.Given as goal

abbrev pub invariant-loop-i : goal.invariant-loop-i
invariant-loop-i l =
    l.vector ≡ set_below l.i (λ i. ltb i (obligations l.self.rule) && is_kept (means yes_no (decode (node_of l.self.rule) (place l.self.rule i)) []))
