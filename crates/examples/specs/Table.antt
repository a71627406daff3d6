-- Examples: a reading, a rule's text, a trace, and what is said of it. Assumes nothing.
use Rattle.std.specs.Prelude.{◌≡◌, List, [], ◌∷◌, ℕ, codes, length}
use Rattle.rules.specs.Names.{gather, numbered}
use Rattle.rules.specs.Reading.{Says}
use Rattle.rules.specs.Tree.{Tree}
use Rattle.rules.specs.declared.rule.Letter.{Letter}
use Rattle.readings.specs.Binding.{numbers_for}
use Rattle.readings.specs.Meaning.{Meaning}
use Rattle.readings.specs.Panel.{panel_over}
use Rattle.readings.specs.Words.{words_over}
use Rattle.verdicts.specs.Meaning.{means, rows}
use Rattle.verdicts.specs.Scale.{Ops}
use Rattle.verdicts.specs.ThreeWay.{three_way}
use Rattle.verdicts.specs.Valuation.{laid}
use Rattle.verdicts.specs.YesNo.{yes_no}
use Rattle.verdicts.specs.declared.scale.YesNo.{YesNo}
use Rattle.verdicts.specs.declared.three_way.ThreeWay.{ThreeWay}

-- what is said of a finished trace: without doubt on the scale of two, with doubt on the scale of three
pub data Said : Type 0 where
  two : YesNo → Said
  three : ThreeWay → Said

pub record Example : Type 0 where
  pub reading : Meaning
  pub text : List ℕ
  pub trace : List ℕ
  pub said : Said

-- what a tree that was read from a text means on a trace, on a scale with this value for doubt
abbrev pub verdict_on : {V : Type 0} → Ops V → V → Meaning → Tree Letter → List ℕ → V
verdict_on o d m t cs =
    means o (numbered (gather [] t) t) (rows (length cs) (length (gather [] t)) (laid o d m (numbers_for m (gather [] t)) cs))

abbrev pub Answers : Meaning → Tree Letter → List ℕ → Said → Type 0
Answers m t cs (two v) = verdict_on yes_no YesNo.Broken m t cs ≡ v
Answers m t cs (three v) = verdict_on three_way ThreeWay.Unclear m t cs ≡ v

-- AN EXAMPLE HOLDS: its text says a tree, and that tree means on the trace what is said
pub record Shown (e : Example) : Type 0 where
  pub tree : Tree Letter
  pub says : Says e.text tree
  pub answers : Answers e.reading tree e.trace e.said

abbrev pub AllShown : List Example → Type 0
AllShown [] = Unit {0}
AllShown (e ∷ es) = Shown e × AllShown es

-- words with the names a, b and c
abbrev pub abc : Meaning
abc = words_over (codes "a" ∷ codes "b" ∷ codes "c" ∷ [])

-- a panel with the name a
abbrev pub panel : Meaning
panel = panel_over (codes "a" ∷ [])

-- levels 1 without an answer
abbrev pub unanswered : ℕ
unanswered = 1

-- THE TABLE
abbrev pub table : List Example
table =
    record { reading = abc; text = codes "[]false"; trace = []; said = two YesNo.Kept }
    ∷ record { reading = abc; text = codes "!a"; trace = []; said = two YesNo.Kept }
    ∷ record { reading = abc; text = codes "<>true"; trace = []; said = two YesNo.Broken }
    ∷ record { reading = panel; text = codes "a"; trace = unanswered ∷ []; said = three ThreeWay.Unclear }
    ∷ record { reading = panel; text = codes "a \\/ !a"; trace = unanswered ∷ []; said = three ThreeWay.Unclear }
    ∷ record { reading = panel; text = codes "a \\/ true"; trace = unanswered ∷ []; said = three ThreeWay.Kept }
    ∷ []
