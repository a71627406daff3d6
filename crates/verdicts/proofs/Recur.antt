-- The recurrences of the operators, from the laws of the scale. Assumes nothing.
use Rattle.std.proofs.Common.{◌≡◌, ℕ, zero, suc, List, [], ◌∷◌, length, drop, sym, refl, ap, ◌∙◌}
use Rattle.rules.specs.declared.node.Unary.{Unary}
use Rattle.rules.specs.declared.node.Binary.{Binary}
use Rattle.verdicts.specs.Scale.{Ops, Laws}
use Rattle.verdicts.specs.Meaning.{each, some, unary, binary}
use Rattle.verdicts.specs.Step.{unary_end, binary_end, unary_row, binary_row}

module _ {V : Type 0} (o : Ops V) where
  pub unary_end_lem : (u : Unary) (x : List (List V) → V) → unary o u x [] ≡ unary_end o u (x [])
  unary_end_lem Unary.Not x = refl
  unary_end_lem Unary.Always x = refl
  unary_end_lem Unary.Eventually x = refl
  unary_end_lem Unary.Next x = refl

  pub binary_end_lem : (b : Binary) (x y : List (List V) → V) → binary o b x y [] ≡ binary_end o b (x []) (y [])
  binary_end_lem Binary.Until x y = refl
  binary_end_lem Binary.And x y = refl
  binary_end_lem Binary.Xor x y = refl
  binary_end_lem Binary.Or x y = refl
  binary_end_lem Binary.Implies x y = refl
  binary_end_lem Binary.Iff x y = refl

  pub unary_row_lem : (u : Unary) (x : List (List V) → V) (r : List V) (s : List (List V)) → unary o u x (r ∷ s) ≡ unary_row o u (x (r ∷ s)) (x s) (unary o u x s)
  unary_row_lem Unary.Not x r s = refl
  unary_row_lem Unary.Always x r s = refl
  unary_row_lem Unary.Eventually x r s = refl
  unary_row_lem Unary.Next x r s = refl

  module _ (laws : Laws o) where
    -- a meet goes into a join of many, each of which may be met in its own order
    into_some : (n : ℕ) (x : V) (f g : ℕ → V) → some o n (λ i. o.meet (f i) (o.meet x (g i))) ≡ o.meet x (some o n (λ i. o.meet (f i) (g i)))
    into_some zero x f g = sym (laws.meet_bottom x)
    into_some (suc n) x f g =
        let swap : o.meet (f zero) (o.meet x (g zero)) ≡ o.meet x (o.meet (f zero) (g zero)) =
        sym (laws.meet_assoc (f zero) x (g zero)) ∙ ap (λ v. o.meet v (g zero)) (laws.meet_comm (f zero) x) ∙ laws.meet_assoc x (f zero) (g zero) in
        let rest = into_some n x (λ i. f (suc i)) (λ i. g (suc i)) in
        ap (λ v. o.join v (some o n (λ i. o.meet (f (suc i)) (o.meet x (g (suc i)))))) swap
        ∙ ap (o.join (o.meet x (o.meet (f zero) (g zero)))) rest
        ∙ sym (laws.meet_join x (o.meet (f zero) (g zero)) (some o n (λ i. o.meet (f (suc i)) (g (suc i)))))

    pub binary_row_lem : (b : Binary) (x y : List (List V) → V) (r : List V) (s : List (List V)) →
        binary o b x y (r ∷ s) ≡ binary_row o b (x (r ∷ s)) (y (r ∷ s)) (binary o b x y s)
    binary_row_lem Binary.Until x y r s =
        let rest = into_some (length s) (x (r ∷ s)) (λ i. y (drop i s)) (λ i. each o i (λ j. x (drop j s))) in
        ap (λ v. o.join v (some o (length s) (λ i. o.meet (y (drop i s)) (o.meet (x (r ∷ s)) (each o i (λ j. x (drop j s))))))) (laws.meet_top (y (r ∷ s)))
        ∙ ap (o.join (y (r ∷ s))) rest
    binary_row_lem Binary.And x y r s = refl
    binary_row_lem Binary.Xor x y r s = refl
    binary_row_lem Binary.Or x y r s = refl
    binary_row_lem Binary.Implies x y r s = refl
    binary_row_lem Binary.Iff x y r s = refl
