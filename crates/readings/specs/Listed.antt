-- Lists of names: what is refused, and finding a name. Assumes nothing.
use Rattle.std.specs.Prelude.{ℕ, ◌+◌, cond, List, [], map, length, take, is_some, Some, None, Option, nat_lt, slice_index_or}
use Rattle.std.specs.Borrow.{Bor}
use Rattle.rules.specs.Names.{spelled, same_name}
use Rattle.rules.specs.Signs.{is_name}
use Rattle.rules.specs.First.{first}
use Rattle.rules.specs.declared.fault.Fault.{Fault}
use Rattle.rules.specs.declared.fault.Fault.TheVariants.{ManyNames, NotAName, RepeatedName}
use Rattle.readings.specs.declared.listed.NameList.{NameList}

-- a list of spellings that is lent
abbrev pub lent : List (Bor (List ℕ)) → List (List ℕ)
lent ns = map (λ x. x.now) ns

-- the spellings of a list of names
abbrev pub spellings : {most : ℕ} → NameList most → List (List ℕ)
spellings l = map spelled (take l.count l.names)

-- name i of a list, counted from 0
abbrev pub name_at : List (List ℕ) → ℕ → List ℕ
name_at ns i = slice_index_or ns i []

-- THE NUMBER OF A NAME in a list, counted from 1: that of the first one which is the same
unfoldable pub find_in : List (List ℕ) → List ℕ → Option ℕ
find_in ns n = first (length ns) (λ i. cond (same_name (name_at ns i) n) (Some (i + 1)) None)

-- what is wrong with name i of a list: it is no name, or it stands before
abbrev pub wrong_at : List (List ℕ) → ℕ → Option Fault
wrong_at ns i = cond (is_name (name_at ns i)) (cond (is_some (find_in (take i ns) (name_at ns i))) (Some (RepeatedName (i + 1))) None) (Some (NotAName (i + 1)))

-- WHY A LIST IS REFUSED that may have this many names
unfoldable pub refused_names : ℕ → List (List ℕ) → Option Fault
refused_names most ns = cond (nat_lt most (length ns)) (Some (ManyNames (most + 1))) (first (length ns) (wrong_at ns))

-- the names of a reading that is made from a list: none where the list is refused
abbrev pub kept_by : Option Fault → List (List ℕ) → List (List ℕ)
kept_by None ns = ns
kept_by (Some f) ns = []
