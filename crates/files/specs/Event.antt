-- What the text of an event says: its code. Assumes nothing.
use Rattle.std.specs.Prelude.{◌≡◌, ℕ, ◌+◌, ◌*◌, ◌<◌, ◌≤◌, Bool, false, ◌&&◌, ◌||◌, List, [], ◌∷◌, ◌++◌, length, Some, None, decimal, Option, ◌==◌, ◌≢◌, nat_lt}
use Rattle.std.specs.Option.{unwrap_or}
use Rattle.readings.specs.Listed.{find_in}
use Rattle.files.specs.Lines.{before}

-- a text begins with a plus, or with a zero that is not all of it
abbrev pub spoiled : List ℕ → Bool
spoiled [] = false
spoiled (c ∷ cs) = c == 43 || (c == 48 && nat_lt 0 (length cs))

-- A NUMBER below 256 as a file writes it: in decimals, with no digit too many
abbrev pub ReadsByte : List ℕ → Option ℕ → Type 0
ReadsByte t None = (n : ℕ) → n < 256 → t ≢ decimal n
ReadsByte t (Some n) = (n < 256) × (t ≡ decimal n)

-- A WORD: its number in the list, or 0; a text with a tab is none
abbrev pub ReadsWord : List (List ℕ) → List ℕ → Option ℕ → Type 0
ReadsWord ns t None = before 9 t < length t
ReadsWord ns t (Some c) = (length t ≤ before 9 t) × (c ≡ unwrap_or (find_in ns t) 0)

-- A PANEL'S STATE: its levels, a tab, and its answers
abbrev pub ReadsState : List ℕ → Option ℕ → Type 0
ReadsState t None = (l a : ℕ) → l < 256 → a < 256 → t ≢ decimal l ++ (9 ∷ decimal a)
ReadsState t (Some c) = (l : ℕ) × (a : ℕ) × (l < 256) × (a < 256) × (t ≡ decimal l ++ (9 ∷ decimal a)) × (c ≡ l + 256 * a)
