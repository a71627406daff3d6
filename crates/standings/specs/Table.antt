-- Examples: a reading, a rule's text, a trace that goes on, and what its monitor says of it. Assumes nothing.
use Rattle.std.specs.Prelude.{◌≡◌, List, [], ◌∷◌, ◌++◌, ℕ, codes, length}
use Rattle.rules.specs.Names.{gather, numbered}
use Rattle.rules.specs.Reading.{Says, Whole}
use Rattle.rules.specs.Rules.{node_count, nodes_of, letter_count}
use Rattle.rules.specs.Tree.{Tree, size, flatten}
use Rattle.rules.specs.declared.rule.Letter.{Letter}
use Rattle.rules.specs.declared.rule.Rule.{Rule}
use Rattle.readings.specs.Binding.{numbers_for}
use Rattle.readings.specs.Meaning.{Meaning}
use Rattle.readings.specs.Panel.{panel_over}
use Rattle.verdicts.specs.Case.{Subject, on}
use Rattle.verdicts.specs.YesNo.{other}
use Rattle.verdicts.specs.declared.scale.YesNo.{YesNo}
use Rattle.monitor.specs.Monitored.{watched, Undoubted, Each}
use Rattle.monitor.specs.Standings.{Whatever, Tells}
use Rattle.monitor.specs.declared.standing.Finality.{Finality}
use Rattle.monitor.specs.declared.standing.Standing.{Standing}
use Rattle.examples.specs.Table.{abc}

-- what the monitor says of a trace that goes on: its verdict, and whether that is for good
pub record Example : Type 0 where
  pub reading : Meaning
  pub text : List ℕ
  pub trace : List ℕ
  pub verdict : YesNo
  pub finality : Finality

-- a rule whose table is that of a tree
pub record Tabled (t : Tree Letter) (r : Rule) : Type 0 where
  pub nodes : nodes_of r ≡ flatten (numbered (gather [] t) t) 0
  pub count : node_count r ≡ size t
  pub letters : letter_count r ≡ length (gather [] t)

-- the rule that is read from a text is such a rule, for the tree that the text says
abbrev pub ReadTabled : Type 0
ReadTabled = (text : List ℕ) (t : Tree Letter) (r : Rule) → Says text t → Whole text r → length r.table.nodes ≡ 64 → length r.table.letters ≡ 8 → Tabled t r

-- such a rule, bound to a reading
abbrev pub bound_to : Meaning → Tree Letter → Rule → Subject
bound_to m t r = record { rule = r; meaning = m; numbers = numbers_for m (gather [] t) }

-- HOW A RULE STANDS after events: its verdict is v, and for good if no events that may come change it, or so far if some do
abbrev pub StandsAt : Subject → List ℕ → YesNo → Finality → Type 0
StandsAt b cs v Finality.ForGood = (watched (on b cs) ≡ v) × Whatever b cs v
StandsAt b cs v Finality.SoFar = (watched (on b cs) ≡ v) × ((rest : List ℕ) × Each (Undoubted b) rest × (watched (on b (cs ++ rest)) ≡ other v))

-- a standing that tells of these events says just this
abbrev pub Told : Type 0
Told = (b : Subject) (cs : List ℕ) (v : YesNo) (f : Finality) (s : Standing) → StandsAt b cs v f → Tells b cs s → (s.verdict ≡ v) × (s.finality ≡ f)

-- AN EXAMPLE HOLDS: its text says a tree, and every rule with that tree's table stands after the trace as is said
pub record Shown (e : Example) : Type 0 where
  pub tree : Tree Letter
  pub says : Says e.text tree
  pub answers : (r : Rule) → Tabled tree r → StandsAt (bound_to e.reading tree r) e.trace e.verdict e.finality

abbrev pub AllShown : List Example → Type 0
AllShown [] = Unit {0}
AllShown (e ∷ es) = Shown e × AllShown es

-- a panel with the names a and b
abbrev pub panel_of_two : Meaning
panel_of_two = panel_over (codes "a" ∷ codes "b" ∷ [])

-- the events a and b of words
abbrev pub an_a : ℕ
an_a = 1

abbrev pub a_b : ℕ
a_b = 2

-- THE TABLE
abbrev pub table : List Example
table =
    record { reading = abc; text = codes "[] a"; trace = []; verdict = YesNo.Kept; finality = Finality.SoFar }
    ∷ record { reading = abc; text = codes "[] a"; trace = a_b ∷ []; verdict = YesNo.Broken; finality = Finality.ForGood }
    ∷ record { reading = abc; text = codes "<> a"; trace = []; verdict = YesNo.Broken; finality = Finality.SoFar }
    ∷ record { reading = abc; text = codes "<> a"; trace = an_a ∷ []; verdict = YesNo.Kept; finality = Finality.ForGood }
    ∷ record { reading = abc; text = codes "[] !(a /\\ b)"; trace = []; verdict = YesNo.Kept; finality = Finality.ForGood }
    ∷ record { reading = panel_of_two; text = codes "[] !(a /\\ b)"; trace = []; verdict = YesNo.Kept; finality = Finality.SoFar }
    ∷ record { reading = abc; text = codes "o !a"; trace = an_a ∷ []; verdict = YesNo.Kept; finality = Finality.SoFar }
    ∷ record { reading = abc; text = codes "o !a"; trace = an_a ∷ an_a ∷ []; verdict = YesNo.Broken; finality = Finality.ForGood }
    ∷ []
