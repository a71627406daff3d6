-- One member more. Assumes nothing.
use Rattle.std.proofs.Common.{◌≡◌, ℕ, ◌+◌, ◌<◌, true, false, ◌||◌, eqb, ◌≢◌, ◌⊎◌, List, length, get_or, set, sym, refl, ap, ◌∙◌, inl, inr, ⊎_elim, arith, length-set, get_or-set_other, get_or-set_same}
use mathlib.Core.Bool.{or-true, or-false}
use Rattle.std.proofs.lemmas.Bool.{cases_eq, eq-eqb, ne_eqb, both_ways}
use Rattle.std.proofs.Math.Logic.{∥∥₁_elim, ∥∥₁_map}
use Rattle.std.proofs.Math.Bridge.{le_prop}
use lib.ListN.{replicate, length-replicate}
use Rattle.polynomials.specs.Held.{vectors}
use Rattle.polynomials.specs.declared.vectors.VectorSet.{VectorSet}
use Rattle.reachable.specs.Listed.{size, Listed}
use Rattle.reachable.proofs.Sizes.{size_none, size_le, size_more}

-- s is the set w with v
module _ (w s : VectorSet) (v : ℕ) (added : (u : ℕ) → vectors s u ≡ (vectors w u || eqb v u)) where
  pub new : vectors s v ≡ true
  new = added v ∙ ap (λ b. vectors w v || b) (eq-eqb v v refl) ∙ or-true (vectors w v)

  pub others : (u : ℕ) → (u ≡ v → ⊥) → vectors s u ≡ vectors w u
  others u n =
      added u ∙ ap (λ b. vectors w u || b) (ne_eqb v u (λ e. n (sym e))) ∙ or-false (vectors w u)

  pub kept : (u : ℕ) → vectors w u ≡ true → vectors s u ≡ true
  kept u h = ⊎_elim (λ (e : u ≡ v). ap (vectors s) e ∙ new) (λ (n : u ≡ v → ⊥). others u n ∙ h) (cases_eq u v)

  pub others_only : (u : ℕ) → vectors s u ≡ true → (vectors w u ≡ true) ⊎ (u ≡ v)
  others_only u h =
      ⊎_elim (λ (e : u ≡ v). inr e) (λ (n : u ≡ v → ⊥). inl (sym (others u n) ∙ h)) (cases_eq u v)

  -- v was new, so it takes the next place of the list
  module _ (order : List ℕ) (count : ℕ) (fits : v < 256) (old : vectors w v ≡ false) where
    one_more : Listed w order count → size (vectors s) 256 ≡ count + 1
    one_more ok = size_more (vectors w) (vectors s) v old new others 256 fits ∙ ap (λ n. n + 1) (sym ok.counted)

    room : Listed w order count → count < 256
    room ok = let e = one_more ok in let l = size_le (vectors s) 256 in omega arith

    -- so there is a place for it
    pub place : ∥ Listed w order count ∥₁ → count < 256
    place ok = ∥∥₁_elim ok le_prop room

    front : (k : ℕ) → k < count → get_or (set order count v) k 0 ≡ get_or order k 0
    front k h = let ne : k ≢ count = omega arith in rw get_or-set_other

    still : Listed w order count → Listed s (set order count v) (count + 1)
    still ok =
        let here : get_or (set order count v) count 0 ≡ v
        = (let lt : count < length order = rw ok.room (room ok) in rw get_or-set_same) in
        record {
          room = length-set order count v ∙ ok.room;
          counted = sym (one_more ok);
          listed = λ u h. ⊎_elim
              (λ (i : vectors w u ≡ true). let (k, lt, at) = ok.listed u i in (k, omega arith, front k lt ∙ at))
              (λ (e : u ≡ v). (count, omega arith, here ∙ sym e))
              (others_only u h);
          members = λ k h. ⊎_elim
              (λ (e : k ≡ count). ap (λ i. vectors s (get_or (set order count v) i 0)) e ∙ ap (vectors s) here ∙ new)
              (λ (n : k ≡ count → ⊥).
              let lt : k < count = omega arith in
              ap (vectors s) (front k lt) ∙ kept (get_or order k 0) (ok.members k lt))
              (cases_eq k count);
        }

    pub still_listed : ∥ Listed w order count ∥₁ → ∥ Listed s (set order count v) (count + 1) ∥₁
    still_listed ok = ∥∥₁_map ok still

-- nothing is found, and nothing is listed
pub none_listed : (s : VectorSet) → ((v : ℕ) → vectors s v ≡ false) → ∥ Listed s (replicate 256 0) 0 ∥₁
none_listed s absent = ∣ record {
  room = length-replicate {A = ℕ} 256 0;
  counted = sym (size_none (vectors s) absent 256);
  listed = λ v h. absurd (both_ways (vectors s v) (absent v) h);
  members = λ k h. absurd (omega arith);
} ∣₁
