-- What a name spells, when two names are the same, and the letters of a rule by first appearance. Assumes nothing.
use Rattle.std.specs.Prelude.{◌≡◌, ℕ, suc, ◌-◌, ◌<◌, Bool, cond, List, [], ◌∷◌, ◌++◌, map, length, take, nat_lt, Option}
use Rattle.std.specs.List.{position}
use Rattle.std.specs.Str.{bytes_eq}
use Rattle.rules.specs.Signs.{skipped}
use Rattle.rules.specs.Tree.{Tree, leaf, truth, before, between}
use Rattle.rules.specs.declared.name.Name.{Name}
use Rattle.rules.specs.declared.node.Node.{Node}
use Rattle.rules.specs.declared.rule.Letter.{Letter}
use Rattle.rules.specs.declared.rule.Table.{Table}

abbrev pub spelled : Name → List ℕ
spelled n = take n.len n.bytes

-- two spellings are one name: the same bytes
unfoldable pub same_name : List ℕ → List ℕ → Bool
same_name a b = bytes_eq a b

abbrev pub names_of : List Letter → List Name
names_of l = map (λ (x : Letter). x.name) l

-- the first place of a name, or the list's length
abbrev pub place : List Name → Name → ℕ
place [] w = 0
place (x ∷ xs) w = cond (same_name (spelled x) (spelled w)) 0 (suc (place xs w))

-- the number of a name among some letters, if it has one
abbrev pub number_in : List Letter → Name → Option ℕ
number_in l w = position (λ (x : Letter). same_name (spelled x.name) (spelled w)) l

-- the names with one more, if it is new
abbrev pub added : List Name → Name → List Name
added l w = cond (nat_lt (place l w) (length l)) l (l ++ w ∷ [])

-- the name w where s is left of a text of n bytes
abbrev pub letter_at : ℕ → List ℕ → Name → Letter
letter_at n s w = record { name = w; at = n - length (skipped s) }

-- the letters with one more, if its name is new
abbrev pub noted : List Letter → Letter → List Letter
noted l x = cond (nat_lt (place (names_of l) x.name) (length l)) l (l ++ x ∷ [])

-- the letters, from l on, that a tree leaves behind: each name once, where it first appears
abbrev pub gather : List Letter → Tree Letter → List Letter
gather l (leaf x) = noted l x
gather l (truth v) = l
gather l (before u t) = gather l t
gather l (between o t u) = gather (gather l t) u

-- the tree over the numbers of its letters in l
abbrev pub numbered : List Letter → Tree Letter → Tree ℕ
numbered l (leaf x) = leaf (place (names_of l) x.name)
numbered l (truth v) = truth v
numbered l (before u t) = before u (numbered l t)
numbered l (between o t u) = between o (numbered l t) (numbered l u)

abbrev pub table_letters : Table → List Letter
table_letters a = take a.count a.letters

abbrev pub names_in : Table → List Name
names_in a = names_of (table_letters a)

abbrev pub table_nodes : Table → List Node
table_nodes a = take a.size a.nodes

-- a letter got the number i, and nothing but the letters was changed
pub record Numbered (a b : Table) (x : Letter) (i : ℕ) : Type 0 where
  pub is : i ≡ place (names_in b) x.name
  pub room : place (names_in a) x.name < 8
  pub keeps : table_letters b ≡ noted (table_letters a) x
  pub nodes : b.nodes ≡ a.nodes
  pub size : b.size ≡ a.size
