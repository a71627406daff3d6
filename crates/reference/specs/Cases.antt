-- Grades, claims, kinds of reading and reasons, case by case. Assumes nothing.
use Rattle.std.specs.Prelude.{ℕ, Bool, true, false, not}
use Rattle.reference.specs.declared.claims.Said.{Said}
use Rattle.reference.specs.declared.grade.Grade.{Grade}
use Rattle.reference.specs.declared.grade.Grade.TheVariants.{Broken, Unclear, Kept}
use Rattle.reference.specs.declared.reading.Kind.{Kind}
use Rattle.reference.specs.declared.reading.Kind.TheVariants.{Words, Panel}
use Rattle.reference.specs.declared.refusal.Reason.{Reason}
use Rattle.reference.specs.declared.refusal.Reason.TheVariants.{LongText, NoSign, Misplaced, LongName, DeepNesting, ManyNodes, ManyLetters, ManyNames, NotAName, RepeatedName, AbsentName, ManyEvents, HighCode, InDoubt, ShortBuffer, ManyObligations, NinthMark, NoMark, Unsupported, BadEnd, OutOfForm}
use Rattle.reference.specs.declared.refusal.Layer.{Layer}
use Rattle.reference.specs.declared.refusal.Layer.TheVariants.{Signs, Grammar, Names, Traces, Files}

-- the ends swapped
abbrev pub turned : Grade → Grade
turned Broken = Kept
turned Unclear = Unclear
turned Kept = Broken

abbrev pub grade_if : Bool → Grade
grade_if true = Kept
grade_if false = Broken

-- what is said of the same node at the same place, turned
abbrev pub contrary : Said → Said
contrary s = record { place = s.place; node = s.node; holds = not s.holds }

-- how many codes there are: a byte, or a level and an answer for each of eight names
abbrev pub code_count : Kind → ℕ
code_count Words = 256
code_count Panel = 65536

abbrev pub layer_of : Reason → Layer
layer_of LongText = Grammar
layer_of NoSign = Signs
layer_of Misplaced = Grammar
layer_of LongName = Signs
layer_of DeepNesting = Grammar
layer_of ManyNodes = Grammar
layer_of ManyLetters = Grammar
layer_of ManyNames = Names
layer_of NotAName = Names
layer_of RepeatedName = Names
layer_of AbsentName = Names
layer_of ManyEvents = Traces
layer_of HighCode = Traces
layer_of InDoubt = Traces
layer_of ShortBuffer = Traces
layer_of ManyObligations = Traces
layer_of NinthMark = Traces
layer_of NoMark = Traces
layer_of Unsupported = Traces
layer_of BadEnd = Traces
layer_of OutOfForm = Files
