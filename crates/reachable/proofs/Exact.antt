-- Attainable vectors are the least closed set, and a set that has just them tells what holds whatever comes. Assumes nothing.
use Rattle.std.proofs.Common.{◌≡◌, ℕ, Bool, true, ◌↔◌, List, [], ◌∷◌, sym, refl, ap, ◌∙◌, subst}
use mathlib.Core.Bool.{Bool-set}
use mathlib.Core.Logic.{∥∥₁_elim}
use Rattle.reachable.specs.Reach.{Moves, May, MayAll, vec, Attainable, ForGood, Exact}

-- a set with the first vector, and with each that follows one of its own
pub record Closed (m : Moves) (In : ℕ → Type 0) : Type 0 where
  pub first : In m.start
  pub next : (v a : ℕ) → In v → May m a → In (m.step a v)

pub attainable_closed : (m : Moves) → Closed m (Attainable m)
attainable_closed m = record {
  first = ([], tt, refl);
  next = λ v a (w, may, at) h. (a ∷ w, (h, may), ap (m.step a) at);
}

pub attainable_least : (m : Moves) (In : ℕ → Type 0) → Closed m In → (v : ℕ) → Attainable m v → In v
attainable_least m In closed v (w, may, at) = subst In at (at_rest w may)
  where
    at_rest : (w : List ℕ) → MayAll m w → In (vec m w)
    at_rest [] may = closed.first
    at_rest (a ∷ w) may = closed.next (vec m w) a (at_rest w may.1) may.0

-- whatever comes is at every attainable vector
pub for_good_iff : (m : Moves) (table : ℕ → Bool) (x : Bool) → ForGood m table x ↔ ((v : ℕ) → Attainable m v → table v ≡ x)
for_good_iff m table x =
    (λ f v (w, may, at). ap table (sym at) ∙ f w may, λ f w may. f (vec m w) (w, may, refl))

pub exact_of : (m : Moves) (in_set : ℕ → Bool) → ((v : ℕ) → (in_set v ≡ true) ↔ Attainable m v) → Exact m in_set
exact_of m in_set h v = (λ i. ∣ (h v).0 i ∣₁, λ t. ∥∥₁_elim t (Bool-set (in_set v) true) (h v).1)

pub exact_for_good : (m : Moves) (in_set table : ℕ → Bool) (x : Bool) → Exact m in_set
    → ((v : ℕ) → in_set v ≡ true → table v ≡ x) ↔ ForGood m table x
exact_for_good m in_set table x exact = (
  λ f w may. f (vec m w) ((exact (vec m w)).1 ∣ (w, may, refl) ∣₁),
  λ f v i. ∥∥₁_elim ((exact v).0 i) (Bool-set (table v) x) ((for_good_iff m table x).0 f v),
)
