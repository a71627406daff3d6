-- What a bound rule and its trace keep. Assumes nothing.
use Rattle.std.specs.Prelude.{◌≡◌, length}
use Rattle.rules.specs.Rules.{node_count, letter_count, nodes_of}
use Rattle.verdicts.specs.Case.{Case}

-- a number for each letter, and a table of the nodes
pub record Bound (k : Case) : Type 0 where
  pub numbered : length k.numbers ≡ letter_count k.rule
  pub noded : length (nodes_of k.rule) ≡ node_count k.rule
