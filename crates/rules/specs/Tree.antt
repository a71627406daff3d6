-- The tree of a rule, and the table of its nodes: operands first, left before right. Assumes nothing.
use Rattle.std.specs.Prelude.{ℕ, zero, suc, ◌+◌, ◌-◌, Bool, true, ◌&&◌, List, [], ◌∷◌, ◌++◌, nat_lt, slice_index_or}
use Rattle.rules.specs.declared.node.Unary.{Unary}
use Rattle.rules.specs.declared.node.Binary.{Binary}
use Rattle.rules.specs.declared.node.Node.{Node}

-- a formula over leaves of any kind: names with their places where a text is read, letters' numbers in a rule
pub data Tree (L : Type 0) : Type 0 where
  leaf : L → Tree L
  truth : Bool → Tree L
  before : Unary → Tree L → Tree L
  between : Binary → Tree L → Tree L → Tree L

-- how many nodes a tree has
abbrev pub size : {L : Type 0} → Tree L → ℕ
size (leaf l) = 1
size (truth v) = 1
size (before u x) = size x + 1
size (between o x y) = size x + size y + 1

-- the nodes of a tree, of which the first has the number b
abbrev pub flatten : Tree ℕ → ℕ → List Node
flatten (leaf l) b = Node.Letter l ∷ []
flatten (truth v) b = Node.Truth v ∷ []
flatten (before u x) b = flatten x b ++ Node.Before u (b + size x - 1) ∷ []
flatten (between o x y) b = flatten x b ++ (flatten y (b + size x) ++ Node.Between o (b + size x - 1) (b + size x + size y - 1) ∷ [])

-- node i of a table
abbrev pub node_at : List Node → ℕ → Node
node_at ns i = slice_index_or ns i (Node.Letter 0)

-- the tree of a node, where g has those of its operands
abbrev pub tree_of : (ℕ → Tree ℕ) → Node → Tree ℕ
tree_of g (Node.Letter l) = leaf l
tree_of g (Node.Truth v) = truth v
tree_of g (Node.Before u a) = before u (g a)
tree_of g (Node.Between o a b) = between o (g a) (g b)

-- the tree of node j of a table, followed at most d deep
abbrev pub within : ℕ → (ℕ → Node) → ℕ → Tree ℕ
within zero node j = truth true
within (suc d) node j = tree_of (within d node) (node j)

-- the tree of node j. Operands come first, so it is at most j + 1 deep
abbrev pub decode : (ℕ → Node) → ℕ → Tree ℕ
decode node j = within (suc j) node j

-- node i of a rule over k letters: its letter is one of them, and its operands come before it
abbrev pub fits : ℕ → ℕ → Node → Bool
fits k i (Node.Letter l) = nat_lt l k
fits k i (Node.Truth v) = true
fits k i (Node.Before u a) = nat_lt a i
fits k i (Node.Between o a b) = nat_lt a i && nat_lt b i
