-- What an option or an array holds that a closure made. Assumes nothing.
use Rattle.std.proofs.Common.{◌≡◌, ℕ, zero, suc, ◌+◌, ◌<◌, ◌≤◌, List, get_or, Option, None, Some, MatchOption, sym, subst, ⊎_elim, arith}
use Rattle.std.proofs.lemmas.Bool.{cases_eq}
use denote.Param.Members.{Mut}
use Rattle.std.specs.Fn.{Called}
use Rattle.std.specs.Array.{IsFromFnResultFrom, IsFromFnResult}

-- two facts on one option, case by case
pub by_both : {A : Type 0} (o : Option A) (G P S : Type 0) (Q R : A → Type 0) → MatchOption o P Q → MatchOption o S R → (P → S → G) → ((x : A) → Q x → R x → G) → G
by_both None G P S Q R p s none some = none p s
by_both (Some x) G P S Q R q r none some = some x q r

-- an array made by calls that leave the closure as it is: what each call gives holds of its element
module _ {F B : Type 0} (g : Mut F (ℕ × Unit {0}) B) (f : F) (ys : List B) (n : ℕ) (P : ℕ → B → Type 0) (step : (i : ℕ) (y : B) (q : F) → i < n → Called g f (i, tt) y q → P i y × (q ≡ f)) where
  made_from : (m i : ℕ) → i + m ≤ n → IsFromFnResultFrom g f ys i m → (k : ℕ) (d : B) → i ≤ k → k < i + m → P k (get_or ys k d)
  made_from zero i h r k d low high = absurd (omega arith)
  made_from (suc m) i h r k d low high =
      let (q, y, element, call, rest) = r in
      let gave = step i y q (omega arith) call in
      ⊎_elim
      (λ (e : k ≡ i). subst (λ (j : ℕ). P j (get_or ys j d)) (sym e) (subst (P i) (sym (element.1 d)) gave.0))
      (λ (ne : k ≡ i → ⊥). made_from m (i + 1) (omega arith) (subst (λ (p : F). IsFromFnResultFrom g p ys (i + 1) m) gave.1 rest) k d (omega arith) (omega arith))
      (cases_eq k i)

  pub made : IsFromFnResult g f ys n → (k : ℕ) (d : B) → k < n → P k (get_or ys k d)
  made r k d h = made_from n 0 (omega arith) r.each k d (omega arith) (omega arith)
