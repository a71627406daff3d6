-- A list of signs stands for one rule at most. Assumes nothing.
use Rattle.std.proofs.Common.{◌≡◌, ℕ, zero, suc, ◌+◌, ◌-◌, ◌*◌, ◌<◌, ◌≤◌, Bool, true, false, List, [], ◌∷◌, ◌++◌, length, sym, refl, ap, ◌∙◌, subst, subst₂, ⊎_elim, append_assoc, arith}
use mathlib.Core.Path.{subst₃}
use Rattle.std.proofs.lemmas.Bool.{cases_lt}
use Rattle.rules.specs.Grammar.{rank_of, rightward, Derives, OneTree}
use Rattle.rules.specs.Rest.{sign_rank}
use Rattle.rules.specs.Text.{Placed, placed}
use Rattle.rules.specs.Tree.{Tree, leaf, truth, before, between}
use Rattle.rules.specs.declared.name.Name.{Name}
use Rattle.rules.specs.declared.node.Unary.{Unary}
use Rattle.rules.specs.declared.node.Binary.{Binary}
use Rattle.rules.specs.declared.node.Binary.TheVariants.{Until, And, Xor, Or, Implies, Iff}
use Rattle.rules.specs.declared.rule.Letter.{Letter}
use Rattle.rules.specs.declared.sign.Sign.{Sign}
use Rattle.rules.specs.declared.sign.Sign.TheVariants.{Before, Between, Truth, Open, Close, End}
use Rattle.rules.proofs.Levels.{one_side}

-- THE GRAMMAR with what is behind: from s up to r stands the tree t, at level k
data Parses : ℕ → List Placed → List Placed → Tree Letter → Type 0 where
  a_name : {s r : List Placed} {w : Name} {a : ℕ} → s ≡ placed (Sign.Name w) a ∷ r → Parses 7 s r (leaf (record { name = w; at = a }))
  a_truth : {s r : List Placed} {v : Bool} {a : ℕ} → s ≡ placed (Truth v) a ∷ r → Parses 7 s r (truth v)
  a_before : {s m r : List Placed} {u : Unary} {a : ℕ} {t : Tree Letter} → s ≡ placed (Before u) a ∷ m → Parses 7 m r t → Parses 7 s r (before u t)
  a_group : {s m e r : List Placed} {a c : ℕ} {t : Tree Letter} → s ≡ placed Open a ∷ m → Parses 1 m e t → e ≡ placed Close c ∷ r → Parses 7 s r t
  up : {k : ℕ} {s r : List Placed} {t : Tree Letter} → Parses (suc k) s r t → Parses k s r t
  to_left : {k : ℕ} {s m e r : List Placed} {o : Binary} {a : ℕ} {t u : Tree Letter} → rank_of o ≡ k → rightward o ≡ false → Parses k s m t → m ≡ placed (Between o) a ∷ e → Parses (suc k) e r u → Parses k s r (between o t u)
  to_right : {k : ℕ} {s m e r : List Placed} {o : Binary} {a : ℕ} {t u : Tree Letter} → rank_of o ≡ k → rightward o ≡ true → Parses (suc k) s m t → m ≡ placed (Between o) a ∷ e → Parses k e r u → Parses k s r (between o t u)

parses : {k : ℕ} {ss : List Placed} {t : Tree Letter} → Derives k ss t → (r : List Placed) → Parses k (ss ++ r) r t
parses Derives.a_name r = a_name refl
parses Derives.a_truth r = a_truth refl
parses (Derives.a_before x) r = a_before refl (parses x r)
parses (Derives.a_group a c {ss = ss} {t = t} x) r =
    let last = placed Close c in
    a_group refl (subst (λ l. Parses 1 l (last ∷ r) t) (sym (append_assoc ss (last ∷ []) r)) (parses x (last ∷ r))) refl
parses (Derives.up x) r = up (parses x r)
parses {k} (Derives.to_left a {o = o} {ss = ss} {us = us} {t = t} i g x y) r =
    let b = placed (Between o) a in
    to_left i g (subst (λ l. Parses k l (b ∷ (us ++ r)) t) (sym (append_assoc ss (b ∷ us) r)) (parses x (b ∷ (us ++ r)))) refl (parses y r)
parses {k} (Derives.to_right a {o = o} {ss = ss} {us = us} {t = t} i g x y) r =
    let b = placed (Between o) a in
    to_right i g (subst (λ l. Parses (suc k) l (b ∷ (us ++ r)) t) (sym (append_assoc ss (b ∷ us) r)) (parses x (b ∷ (us ++ r)))) refl (parses y r)

-- THE FRONT of a list of signs

abbrev sign_at : List Placed → Sign
sign_at [] = End
sign_at (p ∷ s) = p.sign

abbrev behind : List Placed → List Placed
behind [] = []
behind (p ∷ s) = s

abbrev rank : List Placed → ℕ
rank s = sign_rank (sign_at s)

rank_next : (s : List Placed) {r : List Placed} {m : Sign} {a : ℕ} → s ≡ placed m a ∷ r → rank s ≡ sign_rank m
rank_next s e = ap rank e

same_rest : {s r q : List Placed} {m n : Sign} {a b : ℕ} → s ≡ placed m a ∷ r → s ≡ placed n b ∷ q → r ≡ q
same_rest e f = sym (ap behind e) ∙ ap behind f

same_between : {s r q : List Placed} {o w : Binary} {a b : ℕ} → s ≡ placed (Between o) a ∷ r → s ≡ placed (Between w) b ∷ q → o ≡ w
same_between {o = o} {w = w} e f =
    let same : Between o ≡ Between w = sym (ap sign_at e) ∙ ap sign_at f in
    cc

-- LENGTHS AND LEVELS

-- what is behind a part is shorter
after_shorter : {k : ℕ} {s r : List Placed} {t : Tree Letter} → Parses k s r t → length r < length s
after_shorter (a_name e) = omega (arith, ap length e)
after_shorter (a_truth e) = omega (arith, ap length e)
after_shorter (a_before e x) = omega (arith, ap length e, after_shorter x)
after_shorter (a_group o x c) = omega (arith, ap length o, after_shorter x, ap length c)
after_shorter (up x) = after_shorter x
after_shorter (to_left i g x l y) = omega (arith, after_shorter x, ap length l, after_shorter y)
after_shorter (to_right i g x l y) = omega (arith, after_shorter x, ap length l, after_shorter y)

rank_most : (o : Binary) → rank_of o ≤ 6
rank_most Until = omega arith
rank_most And = omega arith
rank_most Xor = omega arith
rank_most Or = omega arith
rank_most Implies = omega arith
rank_most Iff = omega arith

rank_few : (m : Sign) → sign_rank m < 7
rank_few (Before u) = omega arith
rank_few (Between o) = omega (arith, rank_most o)
rank_few (Truth v) = omega arith
rank_few (Sign.Name w) = omega arith
rank_few Open = omega arith
rank_few Close = omega arith
rank_few End = omega arith

level_most : {k : ℕ} {s r : List Placed} {t : Tree Letter} → Parses k s r t → k ≤ 7
level_most (a_name e) = omega arith
level_most (a_truth e) = omega arith
level_most (a_before e x) = omega arith
level_most (a_group o x c) = omega arith
level_most (up x) = omega (arith, level_most x)
level_most (to_left {o = o} i g x l y) = omega (arith, rank_most o)
level_most (to_right {o = o} i g x l y) = omega (arith, rank_most o)

-- AN OPERAND, by its first sign

abbrev From : Sign → ℕ → List Placed → List Placed → Tree Letter → Type 0
From (Before u) a m r t = (x : Tree Letter) × (Parses 7 m r x × (t ≡ before u x))
From (Between o) a m r t = ⊥
From (Truth v) a m r t = (r ≡ m) × (t ≡ truth v)
From (Sign.Name w) a m r t = (r ≡ m) × (t ≡ leaf (record { name = w; at = a }))
From Open a m r t = (e : List Placed) × (c : ℕ) × (Parses 1 m e t) × (e ≡ placed Close c ∷ r)
From Close a m r t = ⊥
From End a m r t = ⊥

abbrev Operand : List Placed → List Placed → Tree Letter → Type 0
Operand [] r t = ⊥
Operand (p ∷ m) r t = From p.sign p.at m r t

operand_of : {k : ℕ} {s r : List Placed} {t : Tree Letter} → Parses k s r t → k ≡ 7 → Operand s r t
operand_of {r = r} {t = t} (a_name e) z = subst (λ l. Operand l r t) (sym e) (refl, refl)
operand_of {r = r} {t = t} (a_truth e) z = subst (λ l. Operand l r t) (sym e) (refl, refl)
operand_of {r = r} {t = t} (a_before {t = x} e y) z = subst (λ l. Operand l r t) (sym e) (x, (y, refl))
operand_of {r = r} {t = t} (a_group {e = e} {c = c} o x l) z = subst (λ l. Operand l r t) (sym o) (e, c, x, l)
operand_of (up x) z = absurd (omega (arith, level_most x))
operand_of (to_left {o = o} i g x l y) z = absurd (omega (arith, rank_most o))
operand_of (to_right {o = o} i g x l y) z = absurd (omega (arith, rank_most o))

-- A LEVEL, by its first operand

-- what follows a first operand a, which ends at m, at level k
data After (k : ℕ) : Tree Letter → List Placed → List Placed → Tree Letter → Type 0 where
  stop : {a : Tree Letter} {r : List Placed} → After k a r r a
  left : {a u t : Tree Letter} {m e f r : List Placed} {o : Binary} {b : ℕ} → rank_of o ≡ k → rightward o ≡ false → m ≡ placed (Between o) b ∷ e → Parses (suc k) e f u → After k (between o a u) f r t → After k a m r t
  right : {a u : Tree Letter} {m e r : List Placed} {o : Binary} {b : ℕ} → rank_of o ≡ k → rightward o ≡ true → m ≡ placed (Between o) b ∷ e → Parses k e r u → After k a m r (between o a u)

-- signs of one level group to one side
sides : (o w : Binary) {k : ℕ} → rank_of o ≡ k → rank_of w ≡ k → rightward o ≡ false → rightward w ≡ true → ⊥
sides o w i j g h =
    let no : true ≡ false = sym h ∙ one_side w o (j ∙ sym i) ∙ g in
    cc

onto : {k b : ℕ} {a t u : Tree Letter} {m r e f : List Placed} {o : Binary} → After k a m r t → rank_of o ≡ k → rightward o ≡ false → r ≡ placed (Between o) b ∷ e → Parses (suc k) e f u → After k a m f (between o t u)
onto stop i g l y = left i g l y stop
onto (left i' g' l' y' c) i g l y = left i' g' l' y' (onto c i g l y)
onto {o = o} (right {o = w} i' g' l' y') i g l y = absurd (sides o w i i' g g')

record Begun (k : ℕ) (s r : List Placed) (t : Tree Letter) : Type 0 where
  at : List Placed
  tree : Tree Letter
  reads : Parses (suc k) s at tree
  after : After k tree at r t

begun : {k : ℕ} {s r : List Placed} {t : Tree Letter} → Parses k s r t → k ≤ 6 → Begun k s r t
begun (a_name e) h = absurd (omega arith)
begun (a_truth e) h = absurd (omega arith)
begun (a_before e x) h = absurd (omega arith)
begun (a_group o x c) h = absurd (omega arith)
begun {r = r} {t = t} (up x) h = record { at = r; tree = t; reads = x; after = stop }
begun (to_left i g x l y) h =
    let b = begun x h in
    record { at = b.at; tree = b.tree; reads = b.reads; after = onto b.after i g l y }
begun (to_right {m = m} {t = t} i g x l y) h = record { at = m; tree = t; reads = x; after = right i g l y }

-- the sign behind the first operand does not bind tighter
no_tighter : {k : ℕ} {a t : Tree Letter} {m r : List Placed} → After k a m r t → rank r < k → rank m < suc k
no_tighter stop h = omega arith
no_tighter {m = m} (left i g l y c) h = omega (arith, rank_next m l)
no_tighter {m = m} (right i g l y) h = omega (arith, rank_next m l)

-- ONE WAY to go on

abbrev Same : List Placed → List Placed → Tree Letter → Tree Letter → Type 0
Same r q t u = (r ≡ q) × (t ≡ u)

-- fuel f is enough for what is left and the level
abbrev One : ℕ → Type 0
One f = (k : ℕ) (s r q : List Placed) (t u : Tree Letter) → 8 * length s + (7 - k) < f → Parses k s r t → Parses k s q u → rank r < k → rank q < k → Same r q t u

after_one : (f : ℕ) → One f → {k : ℕ} {a t u : Tree Letter} (m : List Placed) {r q : List Placed} → 8 * length m + 8 ≤ f → After k a m r t → After k a m q u → rank r < k → rank q < k → Same r q t u
after_one f one m h stop stop p j = (refl, refl)
after_one f one m h stop (left i g l y c) p j = absurd (omega (arith, rank_next m l))
after_one f one m h stop (right i g l y) p j = absurd (omega (arith, rank_next m l))
after_one f one m h (left i g l y c) stop p j = absurd (omega (arith, rank_next m l))
after_one f one m h (right i g l y) stop p j = absurd (omega (arith, rank_next m l))
after_one f one {k} {a} {t} {u} m {r} {q} h (left {u = x} {e = e} {f = d} {o = o} i g l y c) (left {u = x'} {e = e'} {f = d'} {o = o'} i' g' l' y' c') p j =
    let el = ap length l in
    let dl = after_shorter y in
    let w = one (suc k) e d d' x x' (omega arith) y (subst (λ z. Parses (suc k) z d' x') (same_rest l' l) y') (no_tighter c p) (no_tighter c' j) in
    after_one f one d (omega arith) c (subst₃ (λ v z b. After k (between v a z) b q u) (same_between l' l) (sym w.1) (sym w.0) c') p j
after_one f one {k} {a} m {r} {q} h (right {u = x} {e = e} {o = o} i g l y) (right {u = x'} {e = e'} {o = o'} i' g' l' y') p j =
    let oo : o ≡ o' = same_between l l' in
    let el = ap length l in
    let w = one k e r q x x' (omega arith) y (subst (λ z. Parses k z q x') (same_rest l' l) y') p j in
    (w.0, λ z. between (oo z) a (w.1 z))
after_one f one m h (left {o = o} i g l y c) (right {o = w} i' g' l' y') p j = absurd (sides o w i i' g g')
after_one f one m h (right {o = o} i g l y) (left {o = w} i' g' l' y' c') p j = absurd (sides w o i' i g' g)

from_one : (f : ℕ) → One f → (n : Sign) (a : ℕ) (m r q : List Placed) (t u : Tree Letter) → 8 * suc (length m) ≤ f → From n a m r t → From n a m q u → Same r q t u
from_one f one (Before v) a m r q t u h x y =
    let w = one 7 m r q x.0 y.0 (omega arith) x.1.0 y.1.0 (rank_few (sign_at r)) (rank_few (sign_at q)) in
    (w.0, x.1.1 ∙ ap (before v) w.1 ∙ sym y.1.1)
from_one f one (Between o) a m r q t u h x y = absurd x
from_one f one (Truth v) a m r q t u h x y = (x.0 ∙ sym y.0, x.1 ∙ sym y.1)
from_one f one (Sign.Name w) a m r q t u h x y = (x.0 ∙ sym y.0, x.1 ∙ sym y.1)
from_one f one Open a m r q t u h x y =
    let w = one 1 m x.0 y.0 t u (omega arith) x.2 y.2 (omega (arith, rank_next x.0 x.3)) (omega (arith, rank_next y.0 y.3)) in
    (same_rest x.3 (w.0 ∙ y.3), w.1)
from_one f one Close a m r q t u h x y = absurd x
from_one f one End a m r q t u h x y = absurd x

operand_one : (f : ℕ) → One f → (s r q : List Placed) (t u : Tree Letter) → 8 * length s ≤ f → Operand s r t → Operand s q u → Same r q t u
operand_one f one [] r q t u h x y = absurd x
operand_one f one (p ∷ m) r q t u h x y = from_one f one p.sign p.at m r q t u h x y

one_at : (f : ℕ) → One f
one_at zero k s r q t u h x y p j = absurd (omega arith)
one_at (suc f) k s r q t u h x y p j =
    let most = level_most x in
    ⊎_elim
    (λ (c : k < 7).
    let b = begun x (omega arith) in
    let d = begun y (omega arith) in
    let w = one_at f (suc k) s b.at d.at b.tree d.tree (omega arith) b.reads d.reads (no_tighter b.after p) (no_tighter d.after j) in
    let ml = after_shorter b.reads in
    after_one f (one_at f) b.at (omega arith) b.after (subst₂ (λ a m. After k a m q u) (sym w.1) (sym w.0) d.after) p j)
    (λ (c : 7 ≤ k).
    let z : k ≡ 7 = omega arith in
    operand_one f (one_at f) s r q t u (omega arith) (operand_of x z) (operand_of y z))
    (cases_lt k 7)

pub one_tree : OneTree
one_tree ss t u x y =
    let s = ss ++ [] in
    (one_at (suc (8 * length s + 6)) 1 s [] [] t u (omega arith) (parses x []) (parses y []) (omega arith) (omega arith)).1
