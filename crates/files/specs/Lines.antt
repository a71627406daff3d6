-- The lines of a file and the fields of a line. Assumes nothing.
use Rattle.std.specs.Prelude.{◌≡◌, ℕ, suc, ◌+◌, ◌<◌, cond, List, [], ◌∷◌, ◌++◌, length, take, drop, ◌==◌}

-- how many bytes stand before the first that is `stop`
abbrev pub before : ℕ → List ℕ → ℕ
before stop [] = 0
before stop (b ∷ s) = cond (b == stop) 0 (suc (before stop s))

-- a text has this before its first `stop`, and this behind
pub record Parted (stop : ℕ) (text front back : List ℕ) : Type 0 where
  pub ended : before stop text < length text
  pub front_is : front ≡ take (before stop text) text
  pub back_is : back ≡ drop (before stop text + 1) text
  pub whole : text ≡ front ++ (stop ∷ back)

-- a text begins with a line, and has this behind the line's end
abbrev pub Begins : List ℕ → List ℕ → List ℕ → Type 0
Begins = Parted 10
