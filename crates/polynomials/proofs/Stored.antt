-- A list that is filled from its start: what holds of each element stored so far.
use Rattle.std.proofs.Common.{◌≡◌, ℕ, ◌+◌, ◌<◌, List, length, get_or, set, sym, subst, ⊎_elim, arith, get_or-set_other, get_or-set_same}
use Rattle.std.proofs.lemmas.Bool.{cases_eq}

-- what held of each below i, and holds of the new one, holds of each below i + 1
pub store_more : {A : Type 0} (Q : ℕ → A → Type 0) (xs : List A) (i : ℕ) (x d : A) → i < length xs
    → ((k : ℕ) → k < i → Q k (get_or xs k d)) → Q i x → (k : ℕ) → k < i + 1 → Q k (get_or (set xs i x) k d)
store_more Q xs i x d h before here k l =
    ⊎_elim
    (λ (e : k ≡ i).
    subst (λ (j : ℕ). Q j (get_or (set xs i x) j d)) (sym e)
    (subst (Q i) (sym (get_or-set_same xs i x d h)) here))
    (λ (n : k ≡ i → ⊥). subst (Q k) (sym (get_or-set_other xs i k x d n)) (before k (omega arith)))
    (cases_eq k i)
