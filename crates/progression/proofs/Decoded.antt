-- The operands of a rule's node come before it, so its tree is made of theirs. Assumes nothing.
use Rattle.std.proofs.Common.{◌≡◌, ℕ, ◌<◌, ◌≤◌, length, sym, ap, ◌∙◌, ⊎_elim, arith}
use Rattle.std.proofs.lemmas.List.{get_or-take, get_or_past, length-take}
use Rattle.std.proofs.lemmas.Bool.{cases_lt}
use Rattle.rules.specs.Rules.{node_count, letter_count, nodes_of}
use Rattle.rules.specs.Tree.{fits, tree_of, within, decode}
use Rattle.rules.specs.declared.node.Node.{Node}
use Rattle.rules.specs.declared.rule.Rule.{Rule}
use Rattle.verdicts.specs.Step.{Below}
use Rattle.verdicts.proofs.Lift.{decode_step}
use Rattle.verdicts.proofs.Rules.{fits_below}
use Rattle.progression.specs.Obligations.{node_of}

pub node_below : (r : Rule) (j : ℕ) → j < node_count r → Below j (node_of r j)
node_below r j h =
    fits_below (letter_count r) j (node_of r j)
    (ap (fits (letter_count r) j) (get_or-take (node_count r) r.table.nodes j (Node.Letter 0) h) ∙ r.ok j h)

-- past the nodes that there are, each reads as a letter, which has no operands
pub node_tree : (r : Rule) (j : ℕ) → decode (node_of r) j ≡ tree_of (decode (node_of r)) (node_of r j)
node_tree r j =
    ⊎_elim
    (λ (h : j < length (nodes_of r)). decode_step (nodes_of r) (λ i l. node_below r i (omega (arith, length-take (node_count r) r.table.nodes))) j h)
    (λ (h : length (nodes_of r) ≤ j). let past : node_of r j ≡ Node.Letter 0 = get_or_past (nodes_of r) j (Node.Letter 0) h in
    ap (tree_of (within j (node_of r))) past ∙ sym (ap (tree_of (decode (node_of r))) past))
    (cases_lt j (length (nodes_of r)))
