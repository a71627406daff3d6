-- A rule's nodes, letters and tree. Assumes nothing.
use Rattle.std.specs.Prelude.{ℕ, ◌-◌, List}
use Rattle.rules.specs.Names.{table_nodes, table_letters}
use Rattle.rules.specs.Tree.{Tree, decode, node_at}
use Rattle.rules.specs.declared.node.Node.{Node}
use Rattle.rules.specs.declared.rule.Letter.{Letter}
use Rattle.rules.specs.declared.rule.Rule.{Rule}

abbrev pub node_count : Rule → ℕ
node_count r = r.table.size

abbrev pub letter_count : Rule → ℕ
letter_count r = r.table.count

abbrev pub nodes_of : Rule → List Node
nodes_of r = table_nodes r.table

abbrev pub letters_of : Rule → List Letter
letters_of r = table_letters r.table

-- the last node is the whole rule
abbrev pub tree_of_rule : Rule → Tree ℕ
tree_of_rule r = decode (node_at (nodes_of r)) (node_count r - 1)
