-- What is printed for a grade, a finality, a claim and a refusal. Assumes nothing.
use Rattle.std.specs.Prelude.{ℕ, List, ◌∷◌, ◌++◌, Bool, true, false, Option, None, Some, codes, decimal}
use Rattle.reference.specs.Cases.{layer_of}
use Rattle.reference.specs.declared.book.Finality.{Finality}
use Rattle.reference.specs.declared.book.Finality.TheVariants.{SoFar, ForGood}
use Rattle.reference.specs.declared.claims.Claimed.{Claimed}
use Rattle.reference.specs.declared.grade.Grade.{Grade}
use Rattle.reference.specs.declared.grade.Grade.TheVariants.{Broken, Unclear, Kept}
use Rattle.reference.specs.declared.refusal.Reason.{Reason}
use Rattle.reference.specs.declared.refusal.Reason.TheVariants.{LongText, NoSign, Misplaced, LongName, DeepNesting, ManyNodes, ManyLetters, ManyNames, NotAName, RepeatedName, AbsentName, ManyEvents, HighCode, InDoubt, ShortBuffer, ManyObligations, NinthMark, NoMark, Unsupported, BadEnd, OutOfForm}
use Rattle.reference.specs.declared.refusal.Layer.{Layer}
use Rattle.reference.specs.declared.refusal.Layer.TheVariants.{Signs, Grammar, Names, Traces, Files}
use Rattle.reference.specs.declared.refusal.Refusal.{Refusal}

abbrev pub grade_word : Grade → List ℕ
grade_word Broken = codes "broken"
grade_word Unclear = codes "unclear"
grade_word Kept = codes "kept"

abbrev pub finality_words : Finality → List ℕ
finality_words SoFar = codes "so far"
finality_words ForGood = codes "for good"

-- a tab, and then a number
abbrev pub tabbed : ℕ → List ℕ
tabbed n = 9 ∷ decimal n

abbrev pub truth_number : Bool → ℕ
truth_number true = 1
truth_number false = 0

-- the number of a claim that one rests on, 0 for none
abbrev pub ground_number : Option ℕ → ℕ
ground_number None = 0
ground_number (Some n) = n

abbrev pub claim_fields : Claimed → List ℕ
claim_fields c =
    decimal c.said.place ++ (tabbed c.said.node ++ (tabbed (truth_number c.said.holds) ++ (tabbed (ground_number c.first) ++ tabbed (ground_number c.second))))

abbrev pub reason_number : Reason → ℕ
reason_number LongText = 1
reason_number NoSign = 2
reason_number Misplaced = 3
reason_number LongName = 4
reason_number DeepNesting = 5
reason_number ManyNodes = 6
reason_number ManyLetters = 7
reason_number ManyNames = 8
reason_number NotAName = 9
reason_number RepeatedName = 10
reason_number AbsentName = 11
reason_number ManyEvents = 12
reason_number HighCode = 13
reason_number InDoubt = 14
reason_number ShortBuffer = 15
reason_number ManyObligations = 16
reason_number NinthMark = 17
reason_number NoMark = 18
reason_number Unsupported = 19
reason_number BadEnd = 20
reason_number OutOfForm = 21

abbrev pub layer_number : Layer → ℕ
layer_number Signs = 1
layer_number Grammar = 2
layer_number Names = 3
layer_number Traces = 4
layer_number Files = 5

-- its number, the number of its layer, and its place
abbrev pub refusal_fields : Refusal → List ℕ
refusal_fields r = decimal (reason_number r.reason) ++ (tabbed (layer_number (layer_of r.reason)) ++ tabbed r.place)
