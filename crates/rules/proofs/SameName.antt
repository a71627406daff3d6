-- A spelling is the same name as itself. Assumes nothing.
use Rattle.std.proofs.Common.{◌≡◌, ℕ, true, List, rules}
use Rattle.std.proofs.lemmas.Slice.Eq.{bytes_eq-Decides}
use Rattle.rules.specs.Names.{same_name}

pub same_self : (s : List ℕ) → same_name s s ≡ true
unfolding same_name
same_self s = search (rules, bytes_eq-Decides)
