-- From the steps of an evaluation to the meaning. Assumes nothing.
use Rattle.std.proofs.Common.{◌≡◌, ℕ, zero, suc, ◌+◌, ◌*◌, ◌<◌, List, [], ◌∷◌, length, take, drop, sym, refl, ap, ◌∙◌, le_of_suc-le-suc, not-suc-le-zero, suc-mul, add_comm, suc-add, zero-mul, arith, drop-drop}
use Rattle.rules.specs.Tree.{Tree, tree_of, within, decode, node_at}
use Rattle.rules.specs.declared.node.Node.{Node}
use Rattle.verdicts.specs.Scale.{Ops, Laws}
use Rattle.verdicts.specs.Meaning.{means, rows}
use Rattle.verdicts.specs.Step.{Below, Ordered, step_end, step_row, at, Valued}
use Rattle.verdicts.proofs.Recur.{unary_end_lem, binary_end_lem, unary_row_lem, binary_row_lem}
use Rattle.verdicts.proofs.Steps.{end_same, row_same}

-- the tree of a node rests on those of the nodes before it
tree_same : (i : ℕ) (g h : ℕ → Tree ℕ) (n : Node) → Below i n → ((a : ℕ) → a < i → g a ≡ h a) → tree_of g n ≡ tree_of h n
tree_same i g h (Node.Letter l) low e = refl
tree_same i g h (Node.Truth v) low e = refl
tree_same i g h (Node.Before u a) low e = cc (e a low)
tree_same i g h (Node.Between b x y) low e = cc (e x low.0, e y low.1)

module _ (ns : List Node) (ok : Ordered ns) where
  -- deep enough is deep enough
  within_same : (d e j : ℕ) → j < d → j < e → j < length ns → within d (node_at ns) j ≡ within e (node_at ns) j
  within_same zero e j p q h = absurd (not-suc-le-zero p)
  within_same (suc d) zero j p q h = absurd (not-suc-le-zero q)
  within_same (suc d) (suc e) j p q h =
      tree_same j (within d (node_at ns)) (within e (node_at ns)) (node_at ns j) (ok j h) (λ a l. within_same d e a (omega arith) (omega arith) (omega arith))

  pub decode_step : (j : ℕ) → j < length ns → decode (node_at ns) j ≡ tree_of (decode (node_at ns)) (node_at ns j)
  decode_step j h =
      tree_same j (within j (node_at ns)) (decode (node_at ns)) (node_at ns j) (ok j h) (λ a l. within_same j (suc a) a l (omega arith) (omega arith))

module _ {V : Type 0} (o : Ops V) where
  pub means_end : (g : ℕ → Tree ℕ) (n : Node) → means o (tree_of g n) [] ≡ step_end o (λ a. means o (g a) []) n
  means_end g (Node.Letter l) = refl
  means_end g (Node.Truth v) = refl
  means_end g (Node.Before u a) = unary_end_lem o u (means o (g a))
  means_end g (Node.Between b x y) = binary_end_lem o b (means o (g x)) (means o (g y))

  pub means_row : (laws : Laws o) (g : ℕ → Tree ℕ) (r : List V) (s : List (List V)) (n : Node) →
      means o (tree_of g n) (r ∷ s) ≡ step_row o (at o r) (λ a. means o (g a) (r ∷ s)) (λ a. means o (g a) s) (means o (tree_of g n) s) n
  means_row laws g r s (Node.Letter l) = refl
  means_row laws g r s (Node.Truth v) = refl
  means_row laws g r s (Node.Before u a) = unary_row_lem o u (means o (g a)) r s
  means_row laws g r s (Node.Between b x y) = binary_row_lem o laws b (means o (g x)) (means o (g y)) r s

  module _ (ns : List Node) (ok : Ordered ns) where
    -- a step from meanings gives the meaning
    pub end_value : (row : List V) (i : ℕ) → i < length ns → Valued o ns row [] i → step_end o (at o row) (node_at ns i) ≡ means o (decode (node_at ns) i) []
    end_value row i h is =
        let g = decode (node_at ns) in
        end_same o i (at o row) (λ a. means o (g a) []) (node_at ns i) (ok i h) is ∙ sym (means_end g (node_at ns i)) ∙ sym (ap (λ t. means o t []) (decode_step ns ok i h))

    pub row_value : Laws o → (letters next row : List V) (rs : List (List V)) (i : ℕ) → i < length ns → Valued o ns next rs (length ns) → Valued o ns row (letters ∷ rs) i →
        step_row o (at o letters) (at o row) (at o next) (at o next i) (node_at ns i) ≡ means o (decode (node_at ns) i) (letters ∷ rs)
    row_value laws letters next row rs i h after is =
        let g = decode (node_at ns) in
        let step = decode_step ns ok i h in
        row_same o i (at o letters) (at o row) (λ a. means o (g a) (letters ∷ rs)) (at o next) (λ a. means o (g a) rs) (at o next i) (means o (tree_of g (node_at ns i)) rs) (node_at ns i) (ok i h)
        is (λ a l. after a (omega arith)) (after i h ∙ ap (λ t. means o t rs) step)
        ∙ sym (means_row laws g letters rs (node_at ns i))
        ∙ sym (ap (λ t. means o t (letters ∷ rs)) step)

-- the rows from p on: the row at p, and those from p + 1 on
pub rows_at : {V : Type 0} (n p k : ℕ) (xs : List V) → p < n → drop p (rows n k xs) ≡ take k (drop (p * k) xs) ∷ drop (p + 1) (rows n k xs)
rows_at zero p k xs h = absurd (not-suc-le-zero h)
rows_at (suc n) zero k xs h = ap (λ q. take k (drop q xs) ∷ rows n k (drop k xs)) (sym (zero-mul k))
rows_at (suc n) (suc p) k xs h =
    rows_at n p k (drop k xs) (le_of_suc-le-suc h)
    ∙ ap (λ ys. take k ys ∷ drop (p + 1) (rows n k (drop k xs))) (drop-drop (p * k) k xs ∙ ap (λ q. drop q xs) (add_comm k (p * k) ∙ sym (suc-mul p k)))
    ∙ ap (λ q. take k (drop (suc p * k) xs) ∷ drop q (rows (suc n) k xs)) (sym (suc-add p 1))

pub rows_past : {V : Type 0} (n k : ℕ) (xs : List V) → drop n (rows n k xs) ≡ []
rows_past zero k xs = refl
rows_past (suc n) k xs = rows_past n k (drop k xs)
