-- Sets by their numbers, and exclusive-or sums over them. Assumes nothing.
-- Variables count from 1, and variable i is worth 2 ^ (i - 1) in the number of a set of variables. Bits count from 0: variable i + 1
-- is in a set where bit i of its number is 1. A vector, which gives each variable a value, has the number of the set of those with
-- the value 1.
use Rattle.std.specs.Prelude.{ℕ, zero, suc, ◌+◌, ◌/◌, ◌%◌, ◌^◌, Bool, true, false, cond, not, ◌&&◌, ◌||◌, ◌==◌}

infixl 65 ◌⊕◌
-- exclusive or
abbrev pub ◌⊕◌ : Bool → Bool → Bool
false ⊕ b = b
true ⊕ b = not b

-- the exclusive or of f 0 to f (n - 1)
unfoldable pub xor_below : ℕ → (ℕ → Bool) → Bool
xor_below zero f = false
xor_below (suc n) f = xor_below n f ⊕ f n

-- whether each of f 0 to f (n - 1) holds
unfoldable pub all_below : ℕ → (ℕ → Bool) → Bool
all_below zero f = true
all_below (suc n) f = all_below n f && f n

-- bit i of a number, which says whether variable i + 1 is in the set with that number
unfoldable pub bit_at : ℕ → ℕ → Bool
bit_at i n = n / 2 ^ i % 2 == 1

-- whether variable i is in the set with the number s: there is no variable 0
abbrev pub in_set : ℕ → ℕ → Bool
in_set zero s = false
in_set (suc i) s = bit_at i s

-- the number whose bit i is f i, for each i below n
unfoldable pub set_below : ℕ → (ℕ → Bool) → ℕ
set_below zero f = 0
set_below (suc n) f = cond (f n) (2 ^ n) 0 + set_below n f

-- whether each of the variables 1 to n that is in the set s is in the set v
unfoldable pub within : ℕ → ℕ → ℕ → Bool
within n s v = all_below n (λ i. not (bit_at i s) || bit_at i v)
