-- A case as the code holds it, and a node at a place of it. Assumes nothing.
use Rattle.std.specs.Prelude.{◌≡◌, ◌<◌}
use Rattle.rules.specs.Rules.{node_count}
use Rattle.readings.specs.Meaning.{Meaning}
use Rattle.verdicts.specs.Case.{Case, case_of}
use Rattle.claims.specs.Ways.{is_event}
use Rattle.claims.specs.declared.case.Case.{Case as Held}
use Rattle.claims.specs.declared.spot.Spot.{Spot}

-- the bound rule on the trace
abbrev pub posed : {R : Type 0} → (R → Meaning) → Held R → Case
posed means c = case_of means c.bound.now c.trace.now

-- a node of the rule, which knows whether its place is an event
abbrev pub Lies : Case → Spot → Type 0
Lies k s = (s.own < node_count k.rule) × (s.event ≡ is_event k s.place)
