-- The obligations of a rule: the nodes whose values on the rest still matter after an event. Assumes nothing.
-- They are the root, each node that lasts (always, eventually, until), and each operand of a next. Each counts once, and they are
-- numbered from 1 in the order of the nodes.
use Rattle.std.specs.Prelude.{ℕ, zero, suc, ◌+◌, Bool, true, false, cond, ◌&&◌, ◌||◌, ◌==◌}
use Rattle.rules.specs.Rules.{node_count, nodes_of}
use Rattle.rules.specs.Tree.{node_at}
use Rattle.rules.specs.declared.node.Unary.{Unary}
use Rattle.rules.specs.declared.node.Binary.{Binary}
use Rattle.rules.specs.declared.node.Node.{Node}
use Rattle.rules.specs.declared.rule.Rule.{Rule}

-- node j of a rule, counted from 0
abbrev pub node_of : Rule → ℕ → Node
node_of r = node_at (nodes_of r)

-- whether an operator's value at an event takes in its own value after the event
abbrev pub unary_lasts : Unary → Bool
unary_lasts Unary.Not = false
unary_lasts Unary.Always = true
unary_lasts Unary.Eventually = true
unary_lasts Unary.Next = false

abbrev pub binary_lasts : Binary → Bool
binary_lasts Binary.Until = true
binary_lasts Binary.And = false
binary_lasts Binary.Xor = false
binary_lasts Binary.Or = false
binary_lasts Binary.Implies = false
binary_lasts Binary.Iff = false

-- whether it takes in its operand's value after the event
abbrev pub unary_looks : Unary → Bool
unary_looks Unary.Not = false
unary_looks Unary.Always = false
unary_looks Unary.Eventually = false
unary_looks Unary.Next = true

abbrev pub lasts : Node → Bool
lasts (Node.Letter l) = false
lasts (Node.Truth v) = false
lasts (Node.Before u a) = unary_lasts u
lasts (Node.Between b x y) = binary_lasts b

-- whether a node's value at an event takes in that of its operand j after the event
abbrev pub looks_at : ℕ → Node → Bool
looks_at j (Node.Letter l) = false
looks_at j (Node.Truth v) = false
looks_at j (Node.Before u a) = unary_looks u && a == j
looks_at j (Node.Between b x y) = false

-- whether one of f 0 to f (n - 1) holds
unfoldable pub any_below : ℕ → (ℕ → Bool) → Bool
any_below zero f = false
any_below (suc n) f = any_below n f || f n

-- how many of f 0 to f (n - 1) hold
unfoldable pub count_below : (ℕ → Bool) → ℕ → ℕ
count_below f zero = 0
count_below f (suc n) = cond (f n) (count_below f n + 1) (count_below f n)

-- the number below n that f holds of, and of i smaller ones
unfoldable pub nth_below : (ℕ → Bool) → ℕ → ℕ → ℕ
nth_below f zero i = 0
nth_below f (suc n) i = cond (f n && count_below f n == i) n (nth_below f n i)

-- NODE j IS AN OBLIGATION
unfoldable pub is_obligation : Rule → ℕ → Bool
is_obligation r j = j + 1 == node_count r || (lasts (node_of r j) || any_below (node_count r) (λ k. looks_at j (node_of r k)))

-- HOW MANY obligations a rule has
unfoldable pub obligations : Rule → ℕ
obligations r = count_below (is_obligation r) (node_count r)

-- the number of the obligation that node j is, counted from 1
unfoldable pub number : Rule → ℕ → ℕ
number r j = count_below (is_obligation r) j + 1

-- the node that the obligation with the number i + 1 is
unfoldable pub place : Rule → ℕ → ℕ
place r i = nth_below (is_obligation r) (node_count r) i
