-- The loop that lists the numbers that pass a test: how many of the first j, the number of each from 1, and the first eight. Assumes nothing.
use Rattle.std.proofs.Common.{◌≡◌, ℕ, zero, suc, ◌+◌, ◌<◌, ◌≤◌, Bool, true, false, cond, ◌||◌, eqb, List, length, get_or, set, sym, ap, ◌∙◌, subst, ⊎_elim, arith, length-set, get_or-set_other, get_or-set_same}
use Rattle.std.proofs.lemmas.Bool.{cases_eq}
use Rattle.rules.specs.Rules.{node_count, nodes_of}
use Rattle.rules.specs.Tree.{node_at}
use Rattle.rules.specs.declared.node.Node.{Node}
use Rattle.rules.specs.declared.rule.Rule.{Rule}
use Rattle.polynomials.proofs.Stored.{store_more}
use Rattle.progression.specs.Obligations.{lasts, looks_at, any_below, count_below, nth_below, is_obligation, obligations, number, place}
use Rattle.progression.proofs.Counts.{count_yes, count_not, nth_new, nth_old}

step_le : (b : Bool) (c n : ℕ) → c ≤ n → cond b (c + 1) c ≤ suc n
step_le true c n h = omega arith
step_le false c n h = omega arith

pub count_le : (f : ℕ → Bool) (n : ℕ) → count_below f n ≤ n
unfolding count_below
count_le f zero = omega arith
count_le f (suc n) = step_le (f n) (count_below f n) n (count_le f n)

abbrev pub Listing : (ℕ → Bool) → ℕ → ℕ → List ℕ → List ℕ → Type 0
Listing f j count numbers places =
    (count ≡ count_below f j)
    × (length numbers ≡ 64)
    × (length places ≡ 8)
    × ((k : ℕ) → k < j → get_or numbers k 0 ≡ count_below f k + 1)
    × ((i : ℕ) → i < 8 → i < count → get_or places i 0 ≡ nth_below f j i)

module _ (f : ℕ → Bool) (j count : ℕ) (numbers places : List ℕ) (low : j < 64) (old : Listing f j count numbers places) where
  numbered : (k : ℕ) → k < j + 1 → get_or (set numbers j (count + 1)) k 0 ≡ count_below f k + 1
  numbered =
      store_more (λ k x. x ≡ count_below f k + 1) numbers j (count + 1) 0 (omega (arith, old.1)) old.3 (ap (λ (x : ℕ). x + 1) old.0)

  pub listing_not : (c : ℕ) (p : List ℕ) → f j ≡ false → c ≡ count → p ≡ places → Listing f (j + 1) c (set numbers j (count + 1)) p
  listing_not c p e ec ep = (
    ec ∙ old.0 ∙ sym (count_not f j e),
    length-set numbers j (count + 1) ∙ old.1,
    ap length ep ∙ old.2,
    numbered,
    λ i eight h. ap (λ xs. get_or xs i 0) ep ∙ old.4 i eight (omega arith) ∙ sym (nth_old f j i (omega (arith, old.0))),
  )

  placed : f j ≡ true → (i : ℕ) → i < 8 → i < count + 1 → get_or (set places count j) i 0 ≡ nth_below f (j + 1) i
  placed e i eight h =
      ⊎_elim
      (λ (s : i ≡ count).
      ap (λ (k : ℕ). get_or (set places count j) k 0) s
      ∙ get_or-set_same places count j 0 (omega (arith, old.2))
      ∙ sym (ap (nth_below f (j + 1)) (s ∙ old.0) ∙ nth_new f j e))
      (λ (d : i ≡ count → ⊥).
      get_or-set_other places count i j 0 d ∙ old.4 i eight (omega arith) ∙ sym (nth_old f j i (omega (arith, old.0))))
      (cases_eq i count)

  pub listing_yes : (c : ℕ) (p : List ℕ) → f j ≡ true → c ≡ count + 1 → p ≡ set places count j → Listing f (j + 1) c (set numbers j (count + 1)) p
  listing_yes c p e ec ep = (
    ec ∙ ap (λ (x : ℕ). x + 1) old.0 ∙ sym (count_yes f j e),
    length-set numbers j (count + 1) ∙ old.1,
    ap length ep ∙ length-set places count j ∙ old.2,
    numbered,
    λ i eight h. ap (λ xs. get_or xs i 0) ep ∙ placed e i eight (omega arith),
  )

-- which of n nodes are obligations, from the list of them
abbrev pub chosen : List Node → ℕ → ℕ → Bool
chosen ns n j = eqb (j + 1) n || (lasts (node_at ns j) || any_below n (λ k. looks_at j (node_at ns k)))

module _ (r : Rule) (ns : List Node) (same : ns ≡ nodes_of r) (long : length ns ≡ node_count r) (j count : ℕ) (numbers places : List ℕ) (all : j ≡ node_count r) (is : Listing (chosen ns (length ns)) j count numbers places) where
  of_rule : Listing (is_obligation r) (node_count r) count numbers places
  unfolding is_obligation
  of_rule =
      subst (λ (n : ℕ). Listing (is_obligation r) n count numbers places) all
      (subst (λ (n : ℕ). Listing (chosen (nodes_of r) n) j count numbers places) long
      (subst (λ (l : List Node). Listing (chosen l (length ns)) j count numbers places) same is))

  -- what the loop ends with
  pub all_listed : (count ≡ obligations r) × ((k : ℕ) → k < node_count r → get_or numbers k 0 ≡ number r k) × ((i : ℕ) → i < 8 → i < obligations r → get_or places i 0 ≡ place r i)
  unfolding obligations number place
  all_listed = (of_rule.0, of_rule.3, λ i eight h. of_rule.4 i eight (omega (arith, of_rule.0)))
