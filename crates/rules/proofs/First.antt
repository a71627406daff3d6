-- A search for the first that is there, one place at a time. Assumes nothing.
use Rattle.std.proofs.Common.{◌≡◌, ℕ, zero, suc, ◌+◌, ◌<◌, Some, None, Option, refl, ap, subst, ap₂, ⊎_elim, add-one, arith}
use Rattle.std.proofs.lemmas.Bool.{cases_eq}
use Rattle.rules.specs.First.{first, or_else}

module _ {X : Type 0} (f : ℕ → Option X) where
  pub first_start : first 0 f ≡ None
  unfolding first
  first_start = refl

  pub first_more : (i : ℕ) → first i f ≡ None → f i ≡ None → first (i + 1) f ≡ None
  unfolding first
  first_more i none here = rw add-one (ap₂ or_else none here)

  pub first_some : (n i : ℕ) (x : X) → i < n → first i f ≡ None → f i ≡ Some x → first n f ≡ Some x
  unfolding first
  first_some zero i x low none here = absurd (omega arith)
  first_some (suc n) i x low none here =
      ⊎_elim
      (λ (e : i ≡ n). ap₂ or_else (subst (λ k. first k f ≡ None) e none) (subst (λ k. f k ≡ Some x) e here))
      (λ (e : i ≡ n → ⊥). ap (λ o. or_else o (f n)) (first_some n i x (omega arith) none here))
      (cases_eq i n)

pub first_same : {X : Type 0} (f g : ℕ → Option X) (n : ℕ) → ((i : ℕ) → i < n → f i ≡ g i) → first n f ≡ first n g
unfolding first
first_same f g zero e = refl
first_same f g (suc n) e = ap₂ or_else (first_same f g n (λ i h. e i (omega arith))) (e n (omega arith))
