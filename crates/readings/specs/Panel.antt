-- What the panel reading says, and the places that a set spreads to. Assumes nothing.
use Rattle.std.specs.Prelude.{ℕ, zero, suc, ◌-◌, ◌/◌, ◌%◌, ◌^◌, min, Bool, false, cond, ◌&&◌, ◌||◌, List, length, take, ◌==◌, nat_le, nat_lt, slice_index}
use Rattle.readings.specs.Meaning.{Meaning, worth}
use Rattle.readings.specs.Listed.{find_in, spellings}
use Rattle.readings.specs.declared.panel.Panel.{Panel}
use Rattle.readings.specs.declared.mark.Mark.{Mark}
use Rattle.readings.specs.declared.mark.Mark.TheVariants.{Off, On, Doubt}

-- whether bit i of a number is set
abbrev pub has : ℕ → ℕ → Bool
has bits i = bits / 2 ^ i % 2 == 1

-- what an answer and a level say of a name: without an answer it is in doubt
abbrev pub told : Bool → Bool → Mark
told answer level = cond answer (cond level On Off) Doubt

-- 65,536 codes: a code is levels + 256 * answers, and name n has bit n - 1 of both
abbrev pub panel_over : List (List ℕ) → Meaning
panel_over ns = record {
  codes = 65536;
  names = length ns;
  finds = find_in ns;
  marks = λ c n. told (has (c / 256) (n - 1)) (has (c % 256) (n - 1));
}

abbrev pub panel_meaning : Panel → Meaning
panel_meaning p = panel_over (spellings p.list)

-- whether a place of the set, among the first k of a list, has this number
unfoldable pub asked : List ℕ → ℕ → ℕ → ℕ → Bool
asked ns set n zero = false
asked ns set n (suc k) = (slice_index ns k == n && has set k) || asked ns set n k

-- whether a number is a name of so many, and a place of the set has it
abbrev pub asks : ℕ → List ℕ → ℕ → ℕ → Bool
asks names ns set n = nat_lt 0 n && nat_le n names && asked ns set n (min (length ns) 8)

-- the places that are on wherever those of the set are
abbrev pub spread_of : ℕ → List ℕ → ℕ → ℕ
spread_of names ns set = worth (asks names ns set) 0 (take 8 ns)
