-- The nodes of a tree fit: each letter is one of the rule's, and operands come before their node. Assumes nothing.
use Rattle.std.proofs.Common.{◌≡◌, ℕ, ◌+◌, ◌-◌, ◌<◌, ◌≤◌, true, List, [], ◌∷◌, ◌++◌, length, sym, refl, ap, ◌∙◌, subst, ⊎_elim, add-zero, zero-add, arith}
use Rattle.std.proofs.lemmas.List.{get_or_append_left, get_or-append_right, get_or-take, length-append, length-take-le}
use Rattle.std.proofs.lemmas.Bool.{cases_lt, lt-ltb, and_from}
use Rattle.rules.specs.Names.{table_letters, numbered}
use Rattle.rules.specs.Descent.{Built}
use Rattle.rules.specs.Tree.{Tree, leaf, truth, before, between, size, flatten, node_at, fits}
use Rattle.rules.specs.declared.node.Node.{Node}
use Rattle.rules.specs.declared.rule.Letter.{Letter}
use Rattle.rules.specs.declared.rule.Table.{Table}
use Rattle.rules.proofs.Flat.{flat_length}
use Rattle.rules.proofs.Numbering.{Known, gather_known, size_numbered}

pub size_some : {L : Type 0} (t : Tree L) → 1 ≤ size t
size_some (leaf l) = omega arith
size_some (truth v) = omega arith
size_some (before u t) = omega arith
size_some (between o t u) = omega arith

-- the nodes, of which the first is node b, fit a rule over k letters
abbrev Fitted : ℕ → ℕ → List Node → Type 0
Fitted k b ns = (i : ℕ) → i < length ns → fits k (b + i) (node_at ns i) ≡ true

fitted_one : (k b : ℕ) (n : Node) → fits k b n ≡ true → Fitted k b (n ∷ [])
fitted_one k b n h = λ i l.
    let z : i ≡ 0 = omega arith in
    ap (λ j. fits k (b + j) (node_at (n ∷ []) j)) z ∙ ap (λ j. fits k j n) (add-zero b) ∙ h

fitted_join : (k b : ℕ) (xs ys : List Node) → Fitted k b xs → Fitted k (b + length xs) ys → Fitted k b (xs ++ ys)
fitted_join k b xs ys f g = λ i l.
    ⊎_elim
    (λ (h : i < length xs). ap (fits k (b + i)) (get_or_append_left xs ys (Node.Letter 0) i h) ∙ f i h)
    (λ (h : length xs ≤ i).
    let same : b + i ≡ b + length xs + (i - length xs) = omega arith in
    ap (fits k (b + i)) (get_or-append_right xs ys (length xs) i (Node.Letter 0) refl h) ∙ ap (λ j. fits k j (node_at ys (i - length xs))) same ∙ g (i - length xs) (omega (arith, length-append xs ys)))
    (cases_lt i (length xs))

abbrev Below : ℕ → Tree ℕ → Type 0
Below k (leaf l) = l < k
Below k (truth v) = Unit {0}
Below k (before u t) = Below k t
Below k (between o t u) = Below k t × Below k u

fitted_tree : (k : ℕ) (t : Tree ℕ) (b : ℕ) → Below k t → Fitted k b (flatten t b)
fitted_tree k (leaf l) b h = fitted_one k b (Node.Letter l) (lt-ltb l k h)
fitted_tree k (truth v) b h = fitted_one k b (Node.Truth v) refl
fitted_tree k (before u t) b h =
    let n = flat_length t b in
    let p = size_some t in
    fitted_join k b (flatten t b) _ (fitted_tree k t b h) (fitted_one k _ (Node.Before u (b + size t - 1)) (lt-ltb (b + size t - 1) (b + length (flatten t b)) (omega arith)))
fitted_tree k (between o t u) b h =
    let n = flat_length t b in
    let m = flat_length u (b + size t) in
    let p = size_some t in
    let q = size_some u in
    let at : b + size t ≡ b + length (flatten t b) = omega arith in
    let N = b + length (flatten t b) + length (flatten u (b + size t)) in
    fitted_join k b (flatten t b) _ (fitted_tree k t b h.0)
    (fitted_join k (b + length (flatten t b)) (flatten u (b + size t)) _ (subst (λ j. Fitted k j (flatten u (b + size t))) at (fitted_tree k u (b + size t) h.1))
    (fitted_one k N (Node.Between o (b + size t - 1) (b + size t + size u - 1)) (and_from _ _ (lt-ltb (b + size t - 1) N (omega arith)) (lt-ltb (b + size t + size u - 1) N (omega arith)))))

below_known : (l : List Letter) (t : Tree Letter) → Known l t → Below (length l) (numbered l t)
below_known l (leaf x) k = k
below_known l (truth v) k = tt
below_known l (before u t) k = below_known l t k
below_known l (between o t u) k = (below_known l t k.0, below_known l u k.1)

pub built_fits : {s : List ℕ} (b : Table) → Built s b → b.count ≤ length b.letters → (i : ℕ) → i < b.size → fits b.count i (node_at b.nodes i) ≡ true
built_fits b w h i l =
    let L = table_letters b in
    let T = numbered L w.tree in
    let known : Known L w.tree = subst (λ z. Known z w.tree) (sym w.letters_are) (gather_known [] w.tree) in
    let below : Below b.count T = subst (λ n. Below n T) (length-take-le b.count b.letters h) (below_known L w.tree known) in
    let long = flat_length T 0 in
    let same = size_numbered L w.tree in
    let inside : i < length (flatten T 0) = omega (arith, w.size_is) in
    ap (fits b.count i) (sym (get_or-take b.size b.nodes i (Node.Letter 0) l) ∙ ap (λ ns. node_at ns i) w.nodes_are) ∙ ap (λ j. fits b.count j (node_at (flatten T 0) i)) (sym (zero-add i)) ∙ fitted_tree b.count T 0 below i inside
