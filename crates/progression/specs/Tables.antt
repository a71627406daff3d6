-- What the words of the code stand for. Assumes nothing.
use Rattle.std.specs.Prelude.{◌≡◌, ℕ, ◌<◌, Bool, true, false, not, ◌&&◌, ◌||◌, List, [], slice_index_or}
use Rattle.rules.specs.declared.rule.Rule.{Rule}
use Rattle.verdicts.specs.Scale.{Ops}
use Rattle.polynomials.specs.Held.{terms, vectors, vectors_of}
use Rattle.polynomials.specs.Polynomial.{Polynomial, value}
use Rattle.polynomials.specs.declared.residual.Residual.{Residual}
use Rattle.polynomials.specs.declared.vectors.VectorSet.{VectorSet}
use Rattle.progression.specs.Progress.{poly_at, change}

-- the operators on the bits of truth tables
abbrev pub bools : Ops Bool
bools = record { bottom = false; top = true; meet = ◌&&◌; join = ◌||◌; negate = not }

-- x is the truth table of f
abbrev pub TruthTable : VectorSet → (ℕ → Bool) → Type 0
TruthTable x f = (v : ℕ) → v < 256 → vectors x v ≡ f v

-- x has the terms of P
abbrev pub StandsFor : Residual → Polynomial → Type 0
StandsFor x P = (s : ℕ) → s < 256 → terms x s ≡ P s

-- element i of a list of truth tables is that of P
abbrev pub TableOf : Polynomial → List VectorSet → ℕ → Type 0
TableOf P ts i = (v : ℕ) → v < 256 → vectors_of ts i v ≡ value P v

-- the first n are the truth tables of a rule's nodes, at an event with the letters a
abbrev pub Tabled : Rule → ℕ → ℕ → List VectorSet → Type 0
Tabled r a n ts = (j : ℕ) → j < n → TableOf (poly_at r a j) ts j

-- the truth tables of what an event with the letters a puts in the place of each obligation
abbrev pub Changes : Rule → ℕ → List VectorSet → Type 0
Changes r a ts = (i : ℕ) → i < 8 → TableOf (change r a i) ts i

-- a set of letters, an obligation and a vector. One binder for the three with their bounds: antt shows that a ghost field is a
-- fact at most five binders deep
pub record Spot : Type 0 where
  pub letters : ℕ
  pub index : ℕ
  pub vector : ℕ
  pub letters_fit : letters < 256
  pub index_fits : index < 8
  pub vector_fits : vector < 256

-- the same of every set of letters
abbrev pub AllChanges : Rule → List (List VectorSet) → Type 0
AllChanges r tables =
    (s : Spot) → vectors_of (slice_index_or tables s.letters []) s.index s.vector ≡ value (change r s.letters s.index) s.vector
