-- What a reading says of its codes, and the sets that it shows for a list of names. Assumes nothing.
use Rattle.std.specs.Prelude.{◌≡◌, ℕ, ◌+◌, ◌^◌, ◌<◌, Bool, true, false, cond, ◌&&◌, List, [], ◌∷◌, take, Option, nat_le, nat_lt}
use Rattle.readings.specs.declared.mark.Mark.{Mark}
use Rattle.readings.specs.declared.mark.Mark.TheVariants.{Off, On, Doubt}

-- the codes are the numbers below `codes`, the names the numbers 1 to `names`
pub record Meaning : Type 0 where
  pub codes : ℕ
  pub names : ℕ
  pub finds : List ℕ → Option ℕ
  pub marks : ℕ → ℕ → Mark

-- what the code c says of the name n: a code or a name that there is not is off
abbrev pub mark_of : Meaning → ℕ → ℕ → Mark
mark_of m c n = cond (nat_lt c m.codes && nat_lt 0 n && nat_le n m.names) (m.marks c n) Off

abbrev pub is_on : Mark → Bool
is_on Off = false
is_on On = true
is_on Doubt = false

abbrev pub in_doubt : Mark → Bool
in_doubt Off = false
in_doubt On = false
in_doubt Doubt = true

-- the set of the places of a list that pass: the first is worth 2 ^ k, each next one twice as much
unfoldable pub worth : (ℕ → Bool) → ℕ → List ℕ → ℕ
worth p k [] = 0
worth p k (n ∷ ns) = cond (p n) (2 ^ k) 0 + worth p (k + 1) ns

-- a list counts up to its eighth entry
unfoldable pub on_set : Meaning → ℕ → List ℕ → ℕ
on_set m c ns = worth (λ n. is_on (mark_of m c n)) 0 (take 8 ns)

unfoldable pub doubt_set : Meaning → ℕ → List ℕ → ℕ
doubt_set m c ns = worth (λ n. in_doubt (mark_of m c n)) 0 (take 8 ns)

-- A SET IS POSSIBLE if some code shows just it on, and nothing in doubt
abbrev pub Possible : Meaning → List ℕ → ℕ → Type 0
Possible m ns set = (c : ℕ) × (c < m.codes) × (on_set m c ns ≡ set) × (doubt_set m c ns ≡ 0)
