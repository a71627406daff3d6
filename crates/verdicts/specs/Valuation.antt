-- The valuation of a bound rule's letters over a trace of codes. Assumes nothing.
use Rattle.std.specs.Prelude.{◌≡◌, ℕ, ◌+◌, ◌*◌, Bool, cond, ◌||◌, List, [], ◌∷◌, ◌++◌, map, length, take, drop, Some, None, Option, ◌==◌, nat_lt, slice_index}
use Rattle.rules.specs.First.{first}
use Rattle.rules.specs.declared.fault.Fault.{Fault}
use Rattle.rules.specs.declared.fault.Fault.TheVariants.{ManyEvents, HighCode, InDoubt, ShortBuffer}
use Rattle.readings.specs.Meaning.{Meaning, mark_of, doubt_set}
use Rattle.readings.specs.declared.mark.Mark.{Mark}
use Rattle.readings.specs.declared.mark.Mark.TheVariants.{Off, On, Doubt}
use Rattle.verdicts.specs.Scale.{Ops}

-- what a mark is worth on a scale with this value for doubt
abbrev pub worth_of : {V : Type 0} → Ops V → V → Mark → V
worth_of o d Off = o.bottom
worth_of o d On = o.top
worth_of o d Doubt = d

-- the letters with these numbers at a code
abbrev pub row_of : {V : Type 0} → Ops V → V → Meaning → List ℕ → ℕ → List V
row_of o d m ns c = map (λ n. worth_of o d (mark_of m c n)) ns

-- THE VALUATION of a trace: a row for each event
abbrev pub laid : {V : Type 0} → Ops V → V → Meaning → List ℕ → List ℕ → List V
laid o d m ns [] = []
laid o d m ns (c ∷ cs) = row_of o d m ns c ++ laid o d m ns cs

-- what is wrong with an event of this number, counted from 1, that has this code
abbrev pub wrong_code : Meaning → Bool → List ℕ → ℕ → ℕ → Option Fault
wrong_code m takes ns at c = cond (nat_lt c m.codes) (cond (takes || doubt_set m c ns == 0) None (Some (InDoubt at))) (Some (HighCode at))

-- what is wrong with event i of a trace, counted from 0
abbrev pub wrong_event : Meaning → Bool → List ℕ → List ℕ → ℕ → Option Fault
wrong_event m takes ns cs i = wrong_code m takes ns (i + 1) (slice_index cs i)

-- WHY A TRACE IS REFUSED, over letters with these numbers, on a scale that takes doubt or not, with room for so many values
unfoldable pub unlaid : Meaning → Bool → List ℕ → List ℕ → ℕ → Option Fault
unlaid m takes ns cs room =
    cond (nat_lt 4095 (length cs)) (Some ManyEvents) (cond (nat_lt room (length cs * length ns)) (Some (ShortBuffer (length cs * length ns))) (first (length cs) (wrong_event m takes ns cs)))

-- the values are written, and what lies past them is left
pub record Laid {V : Type 0} (values old new : List V) : Type 0 where
  pub front : take (length values) new ≡ values
  pub past : drop (length values) new ≡ drop (length values) old
