-- Which bytes are a name. Assumes nothing.
use Rattle.std.proofs.Common.{◌≡◌, ℕ, ◌≤◌, true, List, length}
use Rattle.std.proofs.lemmas.Bool.{and_parts, leb-true}
use Rattle.rules.specs.Signs.{from_letter, all_in_word, is_name}

pub short_name : (s : List ℕ) → is_name s ≡ true → length s ≤ 12
short_name s e = leb-true (length s) 12 (and_parts _ _ (and_parts (all_in_word s) _ (and_parts (from_letter s) _ e).1).1).0
