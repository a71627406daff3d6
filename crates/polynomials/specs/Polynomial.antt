-- Polynomials over the two-element field in eight variables, as exclusive-or sums of products, no product twice. Assumes nothing.
-- A product of variables goes by the number of their set, so that product 0 is the constant 1, and a polynomial says of each number
-- below 256 whether that product is one of its terms.
use Rattle.std.specs.Prelude.{ℕ, zero, suc, ◌^◌, Bool, false, cond, ◌&&◌, ◌==◌, bit_or}
use Rattle.polynomials.specs.Sets.{◌⊕◌, xor_below, bit_at, set_below, within}

abbrev pub Polynomial : Type 0
Polynomial = ℕ → Bool

-- the constant 1
unfoldable pub one : Polynomial
one s = s == 0

-- variable i, counted from 1; at any other number than 1 to 8 there is no such product below 256, and this is the constant 0
unfoldable pub variable : ℕ → Polynomial
variable zero s = false
variable (suc i) s = s == 2 ^ i

unfoldable pub sum : Polynomial → Polynomial → Polynomial
sum P Q s = P s ⊕ Q s

-- the term s comes from each pair of terms t and u whose union is s
unfoldable pub product : Polynomial → Polynomial → Polynomial
product P Q s = xor_below 256 (λ t. xor_below 256 (λ u. (bit_or t u == s) && (P t && Q u)))

-- the product of P i over those i below n whose variable, i + 1, is in the set s
unfoldable pub product_over : (ℕ → Polynomial) → ℕ → ℕ → Polynomial
product_over P zero s = one
product_over P (suc n) s = cond (bit_at n s) (product (product_over P n s) (P n)) (product_over P n s)

-- R with the polynomial P i in the place of variable i + 1
unfoldable pub substitute : Polynomial → (ℕ → Polynomial) → Polynomial
substitute R P s = xor_below 256 (λ t. R t && product_over P 8 t s)

-- the value at the vector v in the variables 1 to n: the exclusive or over the products whose variables are all in v
unfoldable pub value_in : ℕ → Polynomial → ℕ → Bool
value_in n P v = xor_below (2 ^ n) (λ s. within n s v && P s)

-- the value in all eight variables
abbrev pub value : Polynomial → ℕ → Bool
value = value_in 8

-- the vector that gives variable i + 1 the value of P i at v
unfoldable pub step : (ℕ → Polynomial) → ℕ → ℕ
step P v = set_below 8 (λ i. value (P i) v)
