-- What is monitored: a bound rule, its residual, and the events that may still come. Assumes nothing.
use Rattle.std.specs.Prelude.{◌≡◌, ℕ, ◌<◌, cond, List, [], ◌∷◌, map, take, Some, None, Decides, Option, nat_le, nat_lt}
use Rattle.rules.specs.Rules.{letter_count}
use Rattle.rules.specs.declared.fault.Fault.{Fault}
use Rattle.rules.specs.declared.fault.Fault.TheVariants.{ManyObligations}
use Rattle.rules.specs.declared.rule.Rule.{Rule}
use Rattle.readings.specs.Meaning.{Meaning, on_set, doubt_set, Possible}
use Rattle.verdicts.specs.Case.{Subject, Case, verdict}
use Rattle.verdicts.specs.declared.scale.YesNo.{YesNo}
use Rattle.verdicts.specs.declared.scale.YesNo.TheVariants.{Broken}
use Rattle.polynomials.specs.Held.{vectors}
use Rattle.polynomials.specs.Polynomial.{Polynomial}
use Rattle.progression.specs.Obligations.{obligations}
use Rattle.progression.specs.Progress.{residual}
use Rattle.monitor.specs.declared.setup.Setup.{Setup}

-- WHY A RULE IS NOT MONITORED: it has more than eight obligations
abbrev pub unmonitored : Rule → Option Fault
unmonitored r = cond (nat_lt 8 (obligations r)) (Some (ManyObligations (obligations r))) None

-- WHAT IS MONITORED: the verdict that the rule means, or, with more than eight obligations, the constant `false`
abbrev pub watched : Case → YesNo
watched k = cond (nat_le (obligations k.rule) 8) (verdict k) Broken

-- the sets of letters that the events show
abbrev pub shown_by : Subject → List ℕ → List ℕ
shown_by b cs = map (λ c. on_set b.meaning c b.numbers) cs

-- THE RESIDUAL after the events with these codes: the fresh one carried over them
abbrev pub residual_of : Subject → List ℕ → Polynomial
residual_of b cs = residual b.rule (shown_by b cs)

-- an event that may come: its code is one of the reading's, and no letter of the rule is in doubt
abbrev pub Undoubted : Subject → ℕ → Type 0
Undoubted b c = (c < b.meaning.codes) × (doubt_set b.meaning c b.numbers ≡ 0)

-- what holds of each of a list
abbrev pub Each : (ℕ → Type 0) → List ℕ → Type 0
Each P [] = Unit {0}
Each P (c ∷ cs) = P c × Each P cs

-- the bound rule that a monitor was opened on, where the reading that it keeps means m
abbrev pub subject : Meaning → Setup → Subject
subject m s = record { rule = s.plan.rule; meaning = m; numbers = take (letter_count s.plan.rule) s.names }

-- a monitor's sets of letters are those that its reading calls possible
abbrev pub Decided : Subject → Setup → Type 0
Decided b s = (a : ℕ) → a < 256 → Decides (vectors s.possible a) (Possible b.meaning b.numbers a)
