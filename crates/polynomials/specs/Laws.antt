-- What holds of all polynomials. Assumes nothing.
use Rattle.std.specs.Prelude.{◌≡◌, ℕ, ◌<◌, true, ◌&&◌}
use Rattle.polynomials.specs.Polynomial.{Polynomial, one, variable, sum, product, substitute, value, step}
use Rattle.polynomials.specs.Sets.{◌⊕◌, in_set}

abbrev pub ValueOne : Type 0
ValueOne = (v : ℕ) → value one v ≡ true

abbrev pub ValueVariable : Type 0
ValueVariable = (i v : ℕ) → v < 256 → value (variable i) v ≡ in_set i v

abbrev pub ValueSum : Type 0
ValueSum = (P Q : Polynomial) (v : ℕ) → value (sum P Q) v ≡ (value P v ⊕ value Q v)

abbrev pub ValueProduct : Type 0
ValueProduct = (P Q : Polynomial) (v : ℕ) → value (product P Q) v ≡ (value P v && value Q v)

abbrev pub ValueSubstitute : Type 0
ValueSubstitute = (R : Polynomial) (P : ℕ → Polynomial) (v : ℕ) → value (substitute R P) v ≡ value R (step P v)

-- the step from products to values, taken twice, gives the products
abbrev pub ValueValue : Type 0
ValueValue = (P : Polynomial) (s : ℕ) → s < 256 → value (value P) s ≡ P s

-- equal values everywhere, equal terms everywhere
abbrev pub Unique : Type 0
Unique =
    (P Q : Polynomial) → ((v : ℕ) → v < 256 → value P v ≡ value Q v) → (s : ℕ) → s < 256 → P s ≡ Q s
