-- What the functions that read a text promise: of a part of it, and of the whole. Assumes nothing.
use Rattle.std.specs.Prelude.{◌≡◌, ℕ, ◌+◌, ◌<◌, ◌≤◌, List, [], ◌∷◌, ◌++◌, length}
use Rattle.rules.specs.Names.{names_in, table_letters, table_nodes, gather, numbered}
use Rattle.rules.specs.Rest.{Reach, Reads, Ended}
use Rattle.rules.specs.Scan.{want, have}
use Rattle.rules.specs.Tree.{Tree, size, flatten}
use Rattle.rules.specs.declared.node.Node.{Node}
use Rattle.rules.specs.declared.rule.Letter.{Letter}
use Rattle.rules.specs.declared.rule.Table.{Table}

-- the node v was written behind a's, as node x
pub record Put (a b : Table) (v : Node) (x : ℕ) : Type 0 where
  pub number : x ≡ a.size
  pub size : b.size ≡ a.size + 1
  pub nodes : table_nodes b ≡ table_nodes a ++ v ∷ []
  pub letters : b.letters ≡ a.letters
  pub count : b.count ≡ a.count

-- in a text of n bytes, from s up to r a tree at level k was read, in depth d with p nodes to come, and its nodes were written behind a's; its root is node x
pub record Parsed (n k : ℕ) (s r : List ℕ) (d p : ℕ) (a b : Table) (x : ℕ) : Type 0 where
  pub tree : Tree Letter
  pub reads : Reads n k s r tree
  pub scans : Reach s (want d (a.size + p) (names_in a)) r (have d (b.size + p) (names_in b))
  pub long : b.size ≡ a.size + size tree
  pub fits : b.size + p ≤ 64
  pub wrote : table_nodes b ≡ table_nodes a ++ flatten (numbered (table_letters b) tree) a.size
  pub notes : table_letters b ≡ gather (table_letters a) tree
  pub root : x + 1 ≡ b.size
  pub shorter : length r < length s

-- the whole text is read into a table: the scan finds no fault, the nodes are the tree's and the letters its names, each where it first appears
pub record Built (s : List ℕ) (b : Table) : Type 0 where
  pub tree : Tree Letter
  pub rest : List ℕ
  pub reads : Reads (length s) 1 s rest tree
  pub scans : Reach s (want 0 0 []) rest (have 0 b.size (names_in b))
  pub ends : Ended rest
  pub size_is : b.size ≡ size tree
  pub nodes_are : table_nodes b ≡ flatten (numbered (table_letters b) tree) 0
  pub letters_are : table_letters b ≡ gather [] tree
