-- The vectors that a machine can come to, and what holds whatever comes. Assumes nothing.
-- A vector is the number of the values that the obligations have on a rest, which is the list of the events still to come, each the
-- number of its set of letters. It is found from the end of the rest to its beginning.
use Rattle.std.specs.Prelude.{◌≡◌, ℕ, ◌<◌, Bool, true, ◌↔◌, List, [], ◌∷◌}

-- `start` is the vector of the empty rest; `step a v` is that of an event with the letters a before a rest with the vector v;
-- `possible a` says whether an event can have the letters a
pub record Moves : Type 0 where
  pub start : ℕ
  pub step : ℕ → ℕ → ℕ
  pub possible : ℕ → Bool

-- an event may have the letters a, of which there are eight at most
abbrev pub May : Moves → ℕ → Type 0
May m a = (a < 256) × (m.possible a ≡ true)

-- each event of a rest may come
abbrev pub MayAll : Moves → List ℕ → Type 0
MayAll m [] = Unit {0}
MayAll m (a ∷ w) = May m a × MayAll m w

-- the vector of a rest
abbrev pub vec : Moves → List ℕ → ℕ
vec m [] = m.start
vec m (a ∷ w) = m.step a (vec m w)

-- some rest that may come has the vector v
abbrev pub Attainable : Moves → ℕ → Type 0
Attainable m v = (w : List ℕ) × MayAll m w × (vec m w ≡ v)

-- whatever comes, the truth table has the value x
abbrev pub ForGood : Moves → (ℕ → Bool) → Bool → Type 0
ForGood m table x = (w : List ℕ) → MayAll m w → table (vec m w) ≡ x

-- the set has the attainable vectors and no others; that there is a rest, and not which, so that a ghost field can hold this
abbrev pub Exact : Moves → (ℕ → Bool) → Type 0
Exact m in_set = (v : ℕ) → (in_set v ≡ true) ↔ ∥ Attainable m v ∥₁
