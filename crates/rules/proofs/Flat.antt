-- A table that a tree was written to decodes to that tree, and a rule's table is the table of its tree. Assumes nothing.
use Rattle.std.proofs.Common.{◌≡◌, ℕ, zero, suc, ◌+◌, ◌-◌, ◌<◌, ◌≤◌, List, [], ◌∷◌, ◌++◌, length, get_or, sym, refl, ap, ◌∙◌, subst, ap₂, not-suc-le-zero, add_assoc, arith, length-append}
use Rattle.std.proofs.lemmas.List.{get_or_append_left, get_or-append_right, get_or_at}
use Rattle.rules.specs.Rules.{nodes_of, tree_of_rule}
use Rattle.rules.specs.Tree.{Tree, size, flatten, tree_of, within, decode, node_at}
use Rattle.rules.specs.declared.node.Node.{Node}
use Rattle.rules.specs.declared.rule.Rule.{Rule}

abbrev none : Node
none = Node.Letter 0

-- the nodes from b on are those of a list
abbrev From : (ℕ → Node) → ℕ → List Node → ℕ → Type 0
From node b xs m = (j : ℕ) → j < m → node (b + j) ≡ get_or xs j none

-- how long the table of a tree is
pub flat_length : (t : Tree ℕ) (b : ℕ) → length (flatten t b) ≡ size t
flat_length (Tree.leaf l) b = refl
flat_length (Tree.truth v) b = refl
flat_length (Tree.before u x) b =
    let n = Node.Before u (b + size x - 1) in
    omega (arith, flat_length x b, length-append (flatten x b) (n ∷ []))
flat_length (Tree.between o x y) b =
    let n = Node.Between o (b + size x - 1) (b + size x + size y - 1) in
    let ys = flatten y (b + size x) in
    omega (arith, flat_length x b, flat_length y (b + size x), length-append (flatten x b) (ys ++ n ∷ []), length-append ys (n ∷ []))

module _ (node : ℕ → Node) (b : ℕ) where
  one_parts : (xs : List Node) (n : Node) (m : ℕ) → length xs ≡ m → From node b (xs ++ n ∷ []) (m + 1) → From node b xs m × (node (b + (m + 1) - 1) ≡ n)
  one_parts xs n m e is =
      let last : b + (m + 1) - 1 ≡ b + m = omega arith in (
        (λ j h. let low : j < length xs = omega arith in is j (omega arith) ∙ get_or_append_left xs (n ∷ []) none j low),
        ap node last ∙ is m (omega arith) ∙ get_or_at xs n [] none m e,
      )

  two_parts : (xs ys : List Node) (n : Node) (m k : ℕ) → length xs ≡ m → length ys ≡ k → From node b (xs ++ (ys ++ n ∷ [])) (m + k + 1) →
      From node b xs m × From node (b + m) ys k × (node (b + (m + k + 1) - 1) ≡ n)
  two_parts xs ys n m k e f is =
      let last : b + (m + k + 1) - 1 ≡ b + (m + k) = omega arith in
      let skip : (i : ℕ) → i < k + 1 → node (b + (m + i)) ≡ get_or (ys ++ n ∷ []) i none = λ i h.
      let back : m + i - m ≡ i = omega arith in
      is (m + i) (omega arith) ∙ get_or-append_right xs (ys ++ n ∷ []) m (m + i) none e (omega arith) ∙ ap (λ q. get_or (ys ++ n ∷ []) q none) back in (
        (λ j h. let low : j < length xs = omega arith in is j (omega arith) ∙ get_or_append_left xs (ys ++ n ∷ []) none j low),
        (λ j h. let low : j < length ys = omega arith in ap node (add_assoc b m j) ∙ skip j (omega arith) ∙ get_or_append_left ys (n ∷ []) none j low),
        ap node last ∙ skip k (omega arith) ∙ get_or_at ys n [] none k f,
      )

opened : (d : ℕ) (node : ℕ → Node) (j : ℕ) (n : Node) → 0 < d → node j ≡ n → (e : ℕ) × (within d node j ≡ tree_of (within e node) n) × (d ≡ e + 1)
opened zero node j n h is = absurd (not-suc-le-zero h)
opened (suc e) node j n h is = (e, ap (tree_of (within e node)) is, omega arith)

-- a table of one node
alone : (node : ℕ → Node) (b d : ℕ) (n : Node) → From node b (n ∷ []) 1 → b + 1 ≤ d → node (b + 1 - 1) ≡ n
alone node b d n is deep = let here : b + 1 - 1 ≡ b + 0 = omega arith in ap node here ∙ is 0 (omega arith)

flat_whole : (t : Tree ℕ) (node : ℕ → Node) (b d : ℕ) → From node b (flatten t b) (size t) → b + size t ≤ d → within d node (b + size t - 1) ≡ t
flat_whole (Tree.leaf l) node b d is deep = (opened d node (b + 1 - 1) (Node.Letter l) (omega arith) (alone node b d (Node.Letter l) is deep)).1
flat_whole (Tree.truth v) node b d is deep = (opened d node (b + 1 - 1) (Node.Truth v) (omega arith) (alone node b d (Node.Truth v) is deep)).1
flat_whole (Tree.before u x) node b d is deep =
    let n = Node.Before u (b + size x - 1) in
    let q = one_parts node b (flatten x b) n (size x) (flat_length x b) is in
    let r = opened d node (b + (size x + 1) - 1) n (omega arith) q.1 in
    r.1 ∙ ap (Tree.before u) (flat_whole x node b r.0 q.0 (omega (arith, r.2)))
flat_whole (Tree.between o x y) node b d is deep =
    let n = Node.Between o (b + size x - 1) (b + size x + size y - 1) in
    let q = two_parts node b (flatten x b) (flatten y (b + size x)) n (size x) (size y) (flat_length x b) (flat_length y (b + size x)) is in
    let r = opened d node (b + (size x + size y + 1) - 1) n (omega arith) q.2 in
    r.1 ∙ ap₂ (Tree.between o) (flat_whole x node b r.0 q.0 (omega (arith, r.2))) (flat_whole y node (b + size x) r.0 q.1 (omega (arith, r.2)))

-- the last node of the table of a tree is the tree
pub flat_decode : (t : Tree ℕ) (ns : List Node) (m : ℕ) → length ns ≡ m → flatten t 0 ≡ ns → decode (node_at ns) (m - 1) ≡ t
flat_decode t ns m is e =
    let long : size t ≡ m = sym (flat_length t 0) ∙ ap length e ∙ is in
    let Root : ℕ → Type 0 = λ i. within (suc (m - 1)) (node_at ns) i ≡ t in
    let last : 0 + size t - 1 ≡ m - 1 = omega arith in
    subst Root last
    (flat_whole t (node_at ns) 0 (suc (m - 1))
    (λ j h. let start : 0 + j ≡ j = omega arith in ap (node_at ns) start ∙ ap (λ xs. get_or xs j none) (sym e))
    (omega arith))

-- a rule's table is that of its tree
pub rule_flat : (r : Rule) → flatten (tree_of_rule r) 0 ≡ nodes_of r
rule_flat r = r.flat
