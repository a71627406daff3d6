-- What was done to a monitor: the events that stand and the marks, from the calls' arguments alone. Assumes nothing.
use Rattle.std.specs.Prelude.{ℕ, ◌+◌, false, cond, List, [], ◌∷◌, ◌++◌, length, take, Some, None, Option, nat_le}
use Rattle.rules.specs.declared.fault.Fault.{Fault}
use Rattle.rules.specs.declared.fault.Fault.TheVariants.{ManyEvents, NinthMark, NoMark}
use Rattle.verdicts.specs.Case.{Subject}
use Rattle.verdicts.specs.Valuation.{wrong_code}
use Rattle.monitor.specs.declared.call.Call.{Call}

-- the codes of the events that stand, and for each mark, the newest first, how many events stood when it was set
pub record History : Type 0 where
  pub codes : List ℕ
  pub marks : List ℕ

abbrev pub opened : History
opened = record { codes = []; marks = [] }

-- WHY AN EVENT IS REFUSED that comes after n others: it is event 4,096, or its code is too high, or it leaves a letter in doubt
abbrev pub event_refusal : Subject → ℕ → ℕ → Option Fault
event_refusal b n c = cond (nat_le 4095 n) (Some ManyEvents) (wrong_code b.meaning false b.numbers (n + 1) c)

abbrev pub unmarked : List ℕ → Option Fault
unmarked [] = Some NoMark
unmarked (n ∷ ns) = None

-- WHY A CALL IS REFUSED
abbrev pub refusal : Subject → History → Call → Option Fault
refusal b h (Call.Event c) = event_refusal b (length h.codes) c
refusal b h (Call.LookAhead c) = event_refusal b (length h.codes) c
refusal b h Call.Mark = cond (nat_le 8 (length h.marks)) (Some NinthMark) None
refusal b h Call.Back = unmarked h.marks
refusal b h Call.Keep = unmarked h.marks
refusal b h Call.Standing = None

abbrev pub entered : History → ℕ → History
entered h c = record { codes = h.codes ++ c ∷ []; marks = h.marks }

-- the newest mark is removed, and the events past it are struck
abbrev pub backed : History → List ℕ → History
backed h [] = h
backed h (n ∷ ns) = record { codes = take n h.codes; marks = ns }

abbrev pub older : List ℕ → List ℕ
older [] = []
older (n ∷ ns) = ns

-- the history once a call is done that is not refused
abbrev pub done : History → Call → History
done h (Call.Event c) = entered h c
done h (Call.LookAhead c) = h
done h Call.Mark = record { codes = h.codes; marks = length h.codes ∷ h.marks }
done h Call.Back = backed h h.marks
done h Call.Keep = record { codes = h.codes; marks = older h.marks }
done h Call.Standing = h

-- THE HISTORY AFTER A CALL: a refused one changes nothing
abbrev pub unless_refused : Option Fault → History → History → History
unless_refused None old new = new
unless_refused (Some f) old new = old

abbrev pub after : Subject → History → Call → History
after b h call = unless_refused (refusal b h call) h (done h call)

-- the history after a list of calls
unfoldable pub played : Subject → History → List Call → History
played b h [] = h
played b h (call ∷ calls) = played b (after b h call) calls

-- the events that the answer to a call speaks of: a look ahead speaks of those that stand and its own
abbrev pub told_of : History → Call → List ℕ
told_of h (Call.Event c) = h.codes ++ c ∷ []
told_of h (Call.LookAhead c) = h.codes ++ c ∷ []
told_of h Call.Mark = h.codes
told_of h Call.Back = (backed h h.marks).codes
told_of h Call.Keep = h.codes
told_of h Call.Standing = h.codes
