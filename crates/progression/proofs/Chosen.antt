-- Which nodes are obligations, their numbers and their places. Assumes nothing.
use Rattle.std.proofs.Common.{◌≡◌, ℕ, suc, ◌+◌, ◌-◌, ◌<◌, true, eqb, ap, ◌∙◌, arith}
use Rattle.std.proofs.lemmas.Bool.{eq-eqb, or_left, or_right}
use Rattle.rules.specs.Rules.{node_count}
use Rattle.rules.specs.declared.rule.Rule.{Rule}
use Rattle.progression.specs.Obligations.{node_of, lasts, looks_at, is_obligation, obligations, number, place, count_below, nth_below}
use Rattle.progression.proofs.Counts.{any_at, count_lt, nth_back, nth_lt}

pub root_is : (r : Rule) → is_obligation r (node_count r - 1) ≡ true
unfolding is_obligation
root_is r = or_left (eqb (node_count r - 1 + 1) (node_count r)) _ (eq-eqb (node_count r - 1 + 1) (node_count r) (omega (arith, r.some)))

pub lasting_is : (r : Rule) (j : ℕ) → lasts (node_of r j) ≡ true → is_obligation r j ≡ true
unfolding is_obligation
lasting_is r j e = or_right (eqb (j + 1) (node_count r)) _ (or_left (lasts (node_of r j)) _ e)

pub looked_is : (r : Rule) (j a : ℕ) → j < node_count r → looks_at a (node_of r j) ≡ true → is_obligation r a ≡ true
unfolding is_obligation
looked_is r j a h e =
    or_right (eqb (a + 1) (node_count r)) _ (or_right (lasts (node_of r a)) _ (any_at (node_count r) (λ k. looks_at a (node_of r k)) j h e))

-- numbers count from 1, so the obligation with the number i + 1 is the one at index i
pub index_of : Rule → ℕ → ℕ
index_of r j = number r j - 1

pub number_is : (r : Rule) (j : ℕ) → number r j ≡ suc (index_of r j)
unfolding index_of number
number_is r j = omega arith

pub index_lt : (r : Rule) (j : ℕ) → j < node_count r → is_obligation r j ≡ true → index_of r j < obligations r
unfolding index_of number obligations
index_lt r j h e = omega (arith, count_lt (is_obligation r) j (node_count r) h e)

pub place_of : (r : Rule) (j : ℕ) → j < node_count r → is_obligation r j ≡ true → place r (index_of r j) ≡ j
unfolding index_of number place
place_of r j h e =
    let back : count_below (is_obligation r) j + 1 - 1 ≡ count_below (is_obligation r) j = omega arith in
    ap (nth_below (is_obligation r) (node_count r)) back ∙ nth_back (is_obligation r) (node_count r) j h e

pub place_lt : (r : Rule) (i : ℕ) → place r i < node_count r
unfolding place
place_lt r i = nth_lt (is_obligation r) (node_count r) i r.some
