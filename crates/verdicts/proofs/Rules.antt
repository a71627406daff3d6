-- What the invariant of a rule says of its nodes. Assumes nothing.
use Rattle.std.proofs.Common.{◌≡◌, ℕ, ◌<◌, Bool, true, false, ◌&&◌, ltb, length, refl, ap, ◌∙◌, arith, ltb-true}
use Rattle.std.proofs.lemmas.List.{get_or-take}
use Rattle.rules.specs.Rules.{node_count, letter_count, nodes_of}
use Rattle.rules.specs.Tree.{fits, node_at}
use Rattle.rules.specs.declared.node.Node.{Node}
use Rattle.rules.specs.declared.rule.Rule.{Rule}
use Rattle.verdicts.specs.Step.{Below, Known, Ordered, Lettered}

both : (p q : Bool) → (p && q) ≡ true → (p ≡ true) × (q ≡ true)
both true q h = (refl, h)
both false q h = let z : ◌≡◌ {A = ℕ} 0 1 = cc in absurd (omega arith)

pub fits_below : (k i : ℕ) (n : Node) → fits k i n ≡ true → Below i n
fits_below k i (Node.Letter l) h = tt
fits_below k i (Node.Truth v) h = tt
fits_below k i (Node.Before u a) h = ltb-true a i h
fits_below k i (Node.Between b x y) h = let e = both (ltb x i) (ltb y i) h in (ltb-true x i e.0, ltb-true y i e.1)

fits_known : (k i : ℕ) (n : Node) → fits k i n ≡ true → Known k n
fits_known k i (Node.Letter l) h = ltb-true l k h
fits_known k i (Node.Truth v) h = tt
fits_known k i (Node.Before u a) h = tt
fits_known k i (Node.Between b x y) h = tt

module _ (r : Rule) (long : length (nodes_of r) ≡ node_count r) where
  node_fits : (i : ℕ) → i < length (nodes_of r) → fits (letter_count r) i (node_at (nodes_of r) i) ≡ true
  node_fits i h =
      let low : i < node_count r = omega arith in
      ap (fits (letter_count r) i) (get_or-take (node_count r) r.table.nodes i (Node.Letter 0) low) ∙ r.ok i low

  pub nodes_ordered : Ordered (nodes_of r)
  nodes_ordered i h = fits_below (letter_count r) i (node_at (nodes_of r) i) (node_fits i h)

  pub nodes_lettered : Lettered (letter_count r) (nodes_of r)
  nodes_lettered i h = fits_known (letter_count r) i (node_at (nodes_of r) i) (node_fits i h)
