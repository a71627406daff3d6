-- A set of vectors and the list of its members, in the order that they came in. Assumes nothing.
use Rattle.std.specs.Prelude.{◌≡◌, ℕ, zero, suc, ◌+◌, ◌<◌, Bool, true, cond, List, length, slice_index}
use Rattle.polynomials.specs.Held.{vectors}
use Rattle.polynomials.specs.declared.vectors.VectorSet.{VectorSet}

-- how many numbers below n are in a set
unfoldable pub size : (ℕ → Bool) → ℕ → ℕ
size f zero = 0
size f (suc n) = cond (f n) (size f n + 1) (size f n)

-- the first `count` of `order` are the members
pub record Listed (seen : VectorSet) (order : List ℕ) (count : ℕ) : Type 0 where
  pub room : length order ≡ 256
  pub counted : count ≡ size (vectors seen) 256
  pub listed : (v : ℕ) → vectors seen v ≡ true → (k : ℕ) × (k < count) × (slice_index order k ≡ v)
  pub members : (k : ℕ) → k < count → vectors seen (slice_index order k) ≡ true
