-- A bound rule on a trace of codes, and the verdict that the rule means there. Assumes nothing.
use Rattle.std.specs.Prelude.{ℕ, List, length}
use Rattle.rules.specs.Rules.{tree_of_rule}
use Rattle.rules.specs.declared.rule.Rule.{Rule}
use Rattle.readings.specs.Binding.{numbers_of}
use Rattle.readings.specs.Meaning.{Meaning}
use Rattle.readings.specs.declared.bound.BoundRule.{BoundRule}
use Rattle.verdicts.specs.Meaning.{means}
use Rattle.verdicts.specs.Outcome.{recorded}
use Rattle.verdicts.specs.Valuation.{laid}
use Rattle.verdicts.specs.YesNo.{yes_no}
use Rattle.verdicts.specs.declared.scale.YesNo.{YesNo}
use Rattle.verdicts.specs.declared.scale.YesNo.TheVariants.{Broken}

-- a bound rule: the rule, what its reading means, and the numbers of its letters
pub record Subject : Type 0 where
  pub rule : Rule
  pub meaning : Meaning
  pub numbers : List ℕ

abbrev pub subject_of : {R : Type 0} → (R → Meaning) → BoundRule R → Subject
subject_of means b = record { rule = b.rule; meaning = means b.reading; numbers = numbers_of b }

-- the same on a trace, which has the codes of the events
pub record Case : Type 0 where
  pub rule : Rule
  pub meaning : Meaning
  pub numbers : List ℕ
  pub trace : List ℕ

abbrev pub on : Subject → List ℕ → Case
on s cs = record { rule = s.rule; meaning = s.meaning; numbers = s.numbers; trace = cs }

abbrev pub case_of : {R : Type 0} → (R → Meaning) → BoundRule R → List ℕ → Case
case_of means b cs = record { rule = b.rule; meaning = means b.reading; numbers = numbers_of b; trace = cs }

-- the rows that are laid for the trace, as an evaluation takes them
abbrev pub record_of : Case → List (List YesNo)
record_of k = recorded k.rule (length k.trace) (laid yes_no Broken k.meaning k.numbers k.trace)

-- what the rule means on the trace
abbrev pub verdict : Case → YesNo
verdict k = means yes_no (tree_of_rule k.rule) (record_of k)
