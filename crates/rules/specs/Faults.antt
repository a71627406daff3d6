-- Each fault's number, layer and place, and the fault that a stop is. Assumes nothing.
use Rattle.std.specs.Prelude.{ℕ, ◌-◌}
use Rattle.rules.specs.declared.fault.Fault.{Fault}
use Rattle.rules.specs.declared.fault.Fault.TheVariants.{LongText, NoSign, Misplaced, LongName, DeepNesting, ManyNodes, ManyLetters, ManyNames, NotAName, RepeatedName, AbsentName, ManyEvents, HighCode, InDoubt, ShortBuffer, ManyObligations, NinthMark, NoMark, Unsupported, BadEnd, OutOfForm}
use Rattle.rules.specs.declared.fault.Layer.{Layer}
use Rattle.rules.specs.declared.fault.Layer.TheVariants.{Signs, Grammar, Names, Traces, Files}
use Rattle.rules.specs.declared.sign.Why.{Why}
use Rattle.rules.specs.declared.sign.Stop.{Stop}

abbrev pub number_of : Fault → ℕ
number_of LongText = 1
number_of (NoSign at) = 2
number_of (Misplaced at) = 3
number_of (LongName at) = 4
number_of (DeepNesting at) = 5
number_of (ManyNodes at) = 6
number_of (ManyLetters at) = 7
number_of (ManyNames at) = 8
number_of (NotAName at) = 9
number_of (RepeatedName at) = 10
number_of (AbsentName at) = 11
number_of ManyEvents = 12
number_of (HighCode at) = 13
number_of (InDoubt at) = 14
number_of (ShortBuffer at) = 15
number_of (ManyObligations at) = 16
number_of NinthMark = 17
number_of NoMark = 18
number_of (Unsupported at) = 19
number_of (BadEnd at) = 20
number_of OutOfForm = 21

abbrev pub layer_of : Fault → Layer
layer_of LongText = Grammar
layer_of (NoSign at) = Signs
layer_of (Misplaced at) = Grammar
layer_of (LongName at) = Signs
layer_of (DeepNesting at) = Grammar
layer_of (ManyNodes at) = Grammar
layer_of (ManyLetters at) = Grammar
layer_of (ManyNames at) = Names
layer_of (NotAName at) = Names
layer_of (RepeatedName at) = Names
layer_of (AbsentName at) = Names
layer_of ManyEvents = Traces
layer_of (HighCode at) = Traces
layer_of (InDoubt at) = Traces
layer_of (ShortBuffer at) = Traces
layer_of (ManyObligations at) = Traces
layer_of NinthMark = Traces
layer_of NoMark = Traces
layer_of (Unsupported at) = Traces
layer_of (BadEnd at) = Traces
layer_of OutOfForm = Files

abbrev pub layer_number : Layer → ℕ
layer_number Signs = 1
layer_number Grammar = 2
layer_number Names = 3
layer_number Traces = 4
layer_number Files = 5

-- a byte of a text, a name of a list, an event, a length or how many there are, as the case says
abbrev pub place_of : Fault → ℕ
place_of LongText = 512
place_of (NoSign at) = at
place_of (Misplaced at) = at
place_of (LongName at) = at
place_of (DeepNesting at) = at
place_of (ManyNodes at) = at
place_of (ManyLetters at) = at
place_of (ManyNames at) = at
place_of (NotAName at) = at
place_of (RepeatedName at) = at
place_of (AbsentName at) = at
place_of ManyEvents = 4096
place_of (HighCode at) = at
place_of (InDoubt at) = at
place_of (ShortBuffer at) = at
place_of (ManyObligations at) = at
place_of NinthMark = 8
place_of NoMark = 0
place_of (Unsupported at) = at
place_of (BadEnd at) = at
place_of OutOfForm = 0

abbrev pub fault_at : Why → ℕ → Fault
fault_at Why.NoSign at = NoSign at
fault_at Why.LongName at = LongName at
fault_at Why.Misplaced at = Misplaced at
fault_at Why.DeepNesting at = DeepNesting at
fault_at Why.ManyNodes at = ManyNodes at
fault_at Why.ManyLetters at = ManyLetters at

-- the fault of a text of n bytes whose reading stops at f
abbrev pub fault_of : ℕ → Stop → Fault
fault_of n f = fault_at f.why (n - f.left)
