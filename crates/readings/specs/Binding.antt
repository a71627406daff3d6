-- Binding a rule's letters to the names of a reading. Assumes nothing.
use Rattle.std.specs.Prelude.{ℕ, List, [], map, length, take, Some, None, Option, slice_index_or}
use Rattle.std.specs.Option.{unwrap_or}
use Rattle.rules.specs.First.{first}
use Rattle.rules.specs.Names.{spelled}
use Rattle.rules.specs.declared.fault.Fault.{Fault}
use Rattle.rules.specs.declared.fault.Fault.TheVariants.{AbsentName}
use Rattle.rules.specs.declared.rule.Letter.{Letter}
use Rattle.rules.specs.Rules.{letter_count}
use Rattle.readings.specs.Meaning.{Meaning}
use Rattle.readings.specs.declared.bound.BoundRule.{BoundRule}

-- what a reading finds of a letter
abbrev pub found_by : Meaning → Letter → Option ℕ
found_by m l = m.finds (spelled l.name)

abbrev pub absent_at : Option ℕ → Letter → Option Fault
absent_at None l = Some (AbsentName l.at)
absent_at (Some n) l = None

abbrev pub no_letter : Letter
no_letter = record { name = record { bytes = []; len = 0 }; at = 0 }

-- letter i, counted from 0
abbrev pub letter_at : List Letter → ℕ → Letter
letter_at ls i = slice_index_or ls i no_letter

-- WHY A RULE IS NOT BOUND: its first letter that is absent, at the byte of its first appearance
unfoldable pub unbound : Meaning → List Letter → Option Fault
unbound m ls = first (length ls) (λ i. absent_at (found_by m (letter_at ls i)) (letter_at ls i))

-- the numbers of the letters, 0 for one that is absent
abbrev pub numbers_for : Meaning → List Letter → List ℕ
numbers_for m ls = map (λ l. unwrap_or (found_by m l) 0) ls

-- the numbers that a bound rule gives its letters
abbrev pub numbers_of : {R : Type 0} → BoundRule R → List ℕ
numbers_of b = take (letter_count b.rule) b.numbers
