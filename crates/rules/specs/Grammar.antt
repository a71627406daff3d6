-- The grammar: which tree a list of signs stands for. Assumes nothing.
use Rattle.std.specs.Prelude.{◌≡◌, ℕ, suc, ◌+◌, ◌<◌, Bool, true, false, List, [], ◌∷◌, ◌++◌}
use Rattle.rules.specs.Text.{Placed, placed}
use Rattle.rules.specs.Tree.{Tree, leaf, truth, before, between}
use Rattle.rules.specs.declared.name.Name.{Name}
use Rattle.rules.specs.declared.node.Unary.{Unary}
use Rattle.rules.specs.declared.node.Binary.{Binary}
use Rattle.rules.specs.declared.node.Binary.TheVariants.{Until, And, Xor, Or, Implies, Iff}
use Rattle.rules.specs.declared.rule.Letter.{Letter}
use Rattle.rules.specs.declared.sign.Sign.{Sign}
use Rattle.rules.specs.declared.sign.Sign.TheVariants.{Before, Between, Truth, Open, Close}

-- how tightly it binds
abbrev pub rank_of : Binary → ℕ
rank_of Until = 6
rank_of And = 5
rank_of Xor = 4
rank_of Or = 3
rank_of Implies = 2
rank_of Iff = 1

-- it groups to the right
abbrev pub rightward : Binary → Bool
rightward Until = true
rightward And = false
rightward Xor = false
rightward Or = false
rightward Implies = true
rightward Iff = false

-- THE GRAMMAR: the signs stand for the tree, at a level. Level 7 is an operand, level 1 a whole rule
pub data Derives : ℕ → List Placed → Tree Letter → Type 0 where
  a_name : {w : Name} {a : ℕ} → Derives 7 (placed (Sign.Name w) a ∷ []) (leaf (record { name = w; at = a }))
  a_truth : {v : Bool} {a : ℕ} → Derives 7 (placed (Truth v) a ∷ []) (truth v)
  a_before : {u : Unary} {a : ℕ} {ss : List Placed} {t : Tree Letter} → Derives 7 ss t → Derives 7 (placed (Before u) a ∷ ss) (before u t)
  a_group : (a c : ℕ) {ss : List Placed} {t : Tree Letter} → Derives 1 ss t → Derives 7 (placed Open a ∷ (ss ++ placed Close c ∷ [])) t
  up : {k : ℕ} {ss : List Placed} {t : Tree Letter} → Derives (suc k) ss t → Derives k ss t
  to_left : (a : ℕ) {k : ℕ} {o : Binary} {ss us : List Placed} {t u : Tree Letter} → rank_of o ≡ k → rightward o ≡ false → Derives k ss t → Derives (suc k) us u → Derives k (ss ++ placed (Between o) a ∷ us) (between o t u)
  to_right : (a : ℕ) {k : ℕ} {o : Binary} {ss us : List Placed} {t u : Tree Letter} → rank_of o ≡ k → rightward o ≡ true → Derives (suc k) ss t → Derives k us u → Derives k (ss ++ placed (Between o) a ∷ us) (between o t u)

-- inside d parentheses, no more than 16 are open at once
abbrev pub Shallow : {k : ℕ} {ss : List Placed} {t : Tree Letter} → ℕ → Derives k ss t → Type 0
Shallow d a_name = Unit {0}
Shallow d a_truth = Unit {0}
Shallow d (a_before x) = Shallow d x
Shallow d (a_group a c x) = (d < 16) × Shallow (d + 1) x
Shallow d (up x) = Shallow d x
Shallow d (to_left a i g x y) = Shallow d x × Shallow d y
Shallow d (to_right a i g x y) = Shallow d x × Shallow d y

-- ONE TREE: a list of signs stands for one rule at most
abbrev pub OneTree : Type 0
OneTree = (ss : List Placed) (t u : Tree Letter) → Derives 1 ss t → Derives 1 ss u → t ≡ u
