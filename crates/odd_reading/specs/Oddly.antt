-- What the odd reading says. Assumes nothing.
use Rattle.std.specs.Prelude.{ℕ, cond, List, Some, None, codes, Option, ◌==◌}
use Rattle.rules.specs.Names.{same_name}
use Rattle.readings.specs.Meaning.{Meaning}
use Rattle.readings.specs.declared.mark.Mark.{Mark}
use Rattle.readings.specs.declared.mark.Mark.TheVariants.{Off, On, Doubt}

abbrev pub odd_find : List ℕ → Option ℕ
odd_find n = cond (same_name n (codes "left")) (Some 1) (cond (same_name n (codes "right")) (Some 2) None)

-- code 1 has both names on, code 2 has the second on and the first in doubt
abbrev pub odd_mark : ℕ → ℕ → Mark
odd_mark c n = cond (c == 1) On (cond (c == 2) (cond (n == 1) Doubt On) Off)

abbrev pub odd_meaning : Meaning
odd_meaning = record { codes = 3; names = 2; finds = odd_find; marks = odd_mark }
