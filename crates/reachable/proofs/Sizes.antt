-- How many numbers are in a set. Assumes nothing.
use Rattle.std.proofs.Common.{◌≡◌, ℕ, zero, suc, ◌+◌, ◌<◌, ◌≤◌, Bool, true, false, cond, refl, ap, ◌∙◌, ⊎_elim, arith}
use Rattle.std.proofs.lemmas.Bool.{cases_eq, cond_both}
use Rattle.reachable.specs.Listed.{size}

pub size_none : (f : ℕ → Bool) → ((j : ℕ) → f j ≡ false) → (n : ℕ) → size f n ≡ 0
unfolding size
size_none f h zero = refl
size_none f h (suc n) = rw (h n) (size_none f h n)

pub size_le : (f : ℕ → Bool) (n : ℕ) → size f n ≤ n
unfolding size
size_le f zero = omega arith
size_le f (suc n) =
    let ih = size_le f n in
    cond_both (f n) (size f n + 1) (size f n) (λ k. k ≤ suc n) (λ _. omega arith) (λ _. omega arith)

cond_more : (b : Bool) (x y : ℕ) → cond b (x + 1) (y + 1) ≡ cond b x y + 1
cond_more true x y = refl
cond_more false x y = refl

-- g has v besides what f has
module _ (f g : ℕ → Bool) (v : ℕ) (old : f v ≡ false) (new : g v ≡ true) (others : (j : ℕ) → (j ≡ v → ⊥) → g j ≡ f j) where
  size_same : (n : ℕ) → n ≤ v → size g n ≡ size f n
  unfolding size
  size_same zero h = refl
  size_same (suc n) h = rw (others n (omega arith), size_same n (omega arith))

  pub size_more : (n : ℕ) → v < n → size g n ≡ size f n + 1
  unfolding size
  size_more zero h = absurd (omega arith)
  size_more (suc n) h =
      ⊎_elim
      (λ (e : n ≡ v). rw (ap f e ∙ old, ap g e ∙ new, size_same n (omega arith)))
      (λ (ne : n ≡ v → ⊥).
      let ih : size g n ≡ size f n + 1 = size_more n (omega arith) in
      rw (others n ne, ih) (cond_more (f n) (size f n + 1) (size f n)))
      (cases_eq n v)
