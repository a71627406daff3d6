-- The search, one vector at a time, and its end. Assumes nothing.
use Rattle.std.proofs.Common.{◌≡◌, ℕ, ◌<◌, ◌≤◌, ◌↔◌, true, List, get_or, sym, ap, ◌∙◌, subst, ⊎_elim, arith}
use Rattle.std.proofs.lemmas.Bool.{cases_eq}
use Rattle.std.proofs.Math.Logic.{∥∥₁_elim}
use Rattle.std.proofs.Math.Bridge.{le_prop}
use mathlib.Core.Bool.{Bool-set}
use Rattle.polynomials.specs.Held.{vectors}
use Rattle.polynomials.specs.declared.vectors.VectorSet.{VectorSet}
use Rattle.reachable.specs.Reach.{Moves, May, Attainable}
use Rattle.reachable.specs.Listed.{Listed}
use Rattle.reachable.specs.Found.{In, AllDone, HandedOut, Follows, Expanded}
use Rattle.reachable.specs.declared.found.Found.{Found}
use Rattle.reachable.proofs.Exact.{attainable_closed, attainable_least}
use Rattle.reachable.proofs.Sizes.{size_le}

-- there are at most 256 vectors, and each that is listed was found
pub few : (w : Found) → w.count ≤ 256
few w =
    ∥∥₁_elim w.listed le_prop
    (λ (l : Listed w.seen w.order w.count). let f = size_le (vectors w.seen) 256 in let e = l.counted in omega arith)

member : (w : Found) (k : ℕ) → k < w.count → In w (get_or w.order k 0)
member w k lt = ∥∥₁_elim w.listed (Bool-set (vectors w.seen (get_or w.order k 0)) true) (λ (l : Listed w.seen w.order w.count). l.members k lt)

-- what the search keeps: whatever is in is attainable, and what follows the vectors that were handed out is in
pub record Progress (m : Moves) (w : Found) : Type 0 where
  pub first : In w m.start
  pub sound : (v : ℕ) → In w v → Attainable m v
  pub next : (k : ℕ) → k < w.done → (a : ℕ) → May m a → In w (m.step a (get_or w.order k 0))

module _ (m : Moves) (w : Found) (p : Progress m w) where
  pub progress_more : (v : ℕ) (x y : Found) → HandedOut v w x → Expanded m 256 v x y → Progress m y
  progress_more v x y t e =
      let here : (u : ℕ) → In w u → In x u = λ u i. ap (λ (s : VectorSet). vectors s u) t.same_seen ∙ i in
      record {
        first = e.grown.kept m.start (here m.start p.first);
        sound = λ u i. ⊎_elim
            (λ (j : In x u). p.sound u (sym (ap (λ (s : VectorSet). vectors s u) t.same_seen) ∙ j))
            (λ (f : Follows m 256 v u).
            subst (Attainable m) f.3
            ((attainable_closed m).next v f.0 (p.sound v (ap (vectors w.seen) t.first ∙ member w w.done t.left)) f.2))
            (e.only u i);
        next = λ k h a may.
            let same = e.grown.same_done in
            let one = t.one_more in
            let left = t.left in
            let count = t.same_count in
            let at : get_or y.order k 0 ≡ get_or w.order k 0
            = e.grown.front k (omega arith) ∙ ap (λ (o : List ℕ). get_or o k 0) t.same_order in
            ap (λ (u : ℕ). vectors y.seen (m.step a u)) at
            ∙ ⊎_elim
            (λ (q : k ≡ w.done). ap (λ (i : ℕ). vectors y.seen (m.step a (get_or w.order i 0))) q
            ∙ ap (λ (u : ℕ). vectors y.seen (m.step a u)) (sym t.first) ∙ e.next a may.0 may)
            (λ (n : k ≡ w.done → ⊥).
            e.grown.kept (m.step a (get_or w.order k 0)) (here (m.step a (get_or w.order k 0)) (p.next k (omega arith) a may)))
            (cases_eq k w.done);
      }

  -- at the end the set is closed, so it has every attainable vector
  pub progress_all : (x : Found) → AllDone w x → (v : ℕ) → In x v ↔ Attainable m v
  progress_all x t v = (
    (λ i. p.sound v (sym (ap (λ (s : VectorSet). vectors s v) t.same_seen) ∙ i)),
    (λ r. ap (λ (s : VectorSet). vectors s v) t.same_seen ∙ attainable_least m (In w) (record { first = p.first; next = closed }) v r),
  )
    where
      closed : (u a : ℕ) → In w u → May m a → In w (m.step a u)
      closed u a i may =
          ∥∥₁_elim w.listed (Bool-set (vectors w.seen (m.step a u)) true)
          (λ (l : Listed w.seen w.order w.count).
          let (k, lt, at) = l.listed u i in
          let all = t.all in
          ap (λ (i : ℕ). vectors w.seen (m.step a i)) (sym at) ∙ p.next k (omega arith) a may)
