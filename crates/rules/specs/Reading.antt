-- What a rule that was read from a text is, and which texts are read. Assumes nothing.
use Rattle.std.specs.Prelude.{◌≡◌, ℕ, ◌≤◌, List, [], length}
use Rattle.rules.specs.Grammar.{Derives, Shallow}
use Rattle.rules.specs.Names.{gather, numbered}
use Rattle.rules.specs.Rules.{nodes_of, letters_of, tree_of_rule}
use Rattle.rules.specs.Text.{Placed, ◌then◌, the_end, signs}
use Rattle.rules.specs.Tree.{Tree, size, flatten}
use Rattle.rules.specs.declared.rule.Letter.{Letter}
use Rattle.rules.specs.declared.rule.Rule.{Rule}

-- A TEXT SAYS A TREE: the grammar derives it from all the text's signs up to the end
pub record Says (text : List ℕ) (tree : Tree Letter) : Type 0 where
  pub row : List Placed
  pub spells : signs text ≡ row then the_end (length text)
  pub derives : Derives 1 row tree

-- A WHOLE RULE: the text says a tree; the nodes are the tree's, and the letters its names, each where it first appears
pub record Whole (text : List ℕ) (rule : Rule) : Type 0 where
  pub tree : Tree Letter
  pub says : Says text tree
  pub letters : letters_of rule ≡ gather [] tree
  pub nodes : nodes_of rule ≡ flatten (numbered (letters_of rule) tree) 0
  pub root : tree_of_rule rule ≡ numbered (letters_of rule) tree

-- A TEXT WITHIN THE LIMITS: it says a tree, with few bytes, parentheses, nodes and letters
pub record Within (text : List ℕ) : Type 0 where
  pub tree : Tree Letter
  pub says : Says text tree
  pub short : length text ≤ 512
  pub shallow : Shallow 0 says.derives
  pub small : size tree ≤ 64
  pub few : length (gather [] tree) ≤ 8
