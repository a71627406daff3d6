-- The scan finds no fault in a text that the grammar derives within the limits. Assumes nothing.
use Rattle.std.proofs.Common.{◌≡◌, ℕ, ◌+◌, ◌-◌, ◌<◌, ◌≤◌, Bool, ltb, List, [], ◌∷◌, ◌++◌, length, None, sym, ap, ◌∙◌, arith}
use Rattle.std.proofs.lemmas.List.{length-append, length_push}
use Rattle.std.proofs.lemmas.Bool.{cond_both, cond-true, cond-false, lt-ltb, le-ltb, ltb-true}
use Rattle.rules.specs.Grammar.{Derives, a_name, a_truth, a_before, a_group, up, to_left, to_right, Shallow}
use Rattle.rules.specs.Names.{names_of, place, added, noted, gather}
use Rattle.rules.specs.Reading.{Within}
use Rattle.rules.specs.Scan.{want, have, scan, first_fault}
use Rattle.rules.specs.Text.{Placed, placed, Signs, next, the_end, ◌then◌}
use Rattle.rules.specs.Tree.{Tree, size}
use Rattle.rules.specs.declared.name.Name.{Name}
use Rattle.rules.specs.declared.node.Unary.{Unary}
use Rattle.rules.specs.declared.node.Binary.{Binary}
use Rattle.rules.specs.declared.rule.Letter.{Letter}
use Rattle.rules.specs.declared.sign.Sign.{Sign}
use Rattle.rules.specs.declared.sign.Sign.TheVariants.{Before, Between, Truth, Open, Close}
use Rattle.rules.proofs.Fitting.{size_some}
use Rattle.rules.proofs.Numbering.{place_le, names_noted, gather_front}
use Rattle.rules.proofs.Spans.{then_join}

gather_longer : (l : List Letter) (t : Tree Letter) → length l ≤ length (gather l t)
gather_longer l t =
    let f = gather_front l t in
    omega (arith, ap length f.1, length-append l f.0)

noted_room : (l : List Letter) (x : Letter) → length (noted l x) ≤ 8 → place (names_of l) x.name < 8
noted_room l x =
    let p = place (names_of l) x.name in
    let most = place_le l x.name in
    cond_both (ltb p (length l)) l (l ++ x ∷ []) (λ m. length m ≤ 8 → p < 8) (λ e h. omega (arith, ltb-true p (length l) e)) (λ e h. omega (arith, length_push l x))

-- each sign, where it may stand and no limit is met

module _ (a d n : ℕ) (l : List Name) (z : Signs) where
  on_name : (w : Name) → n < 64 → place l w < 8 → scan (next (placed (Sign.Name w) a) z) (want d n l) ≡ scan z (have d (n + 1) (added l w))
  on_name w h k = cond-true (ltb n 64) _ _ (lt-ltb n 64 h) ∙ cond-true (ltb (place l w) 8) _ _ (lt-ltb (place l w) 8 k)

  on_truth : (v : Bool) → n < 64 → scan (next (placed (Truth v) a) z) (want d n l) ≡ scan z (have d (n + 1) l)
  on_truth v h = cond-true (ltb n 64) _ _ (lt-ltb n 64 h)

  on_before : (u : Unary) → n < 64 → scan (next (placed (Before u) a) z) (want d n l) ≡ scan z (want d (n + 1) l)
  on_before u h = cond-true (ltb n 64) _ _ (lt-ltb n 64 h)

  on_open : d < 16 → scan (next (placed Open a) z) (want d n l) ≡ scan z (want (d + 1) n l)
  on_open h = cond-true (ltb d 16) _ _ (lt-ltb d 16 h)

  on_between : (o : Binary) → n < 64 → scan (next (placed (Between o) a) z) (have d n l) ≡ scan z (want d (n + 1) l)
  on_between o h = cond-true (ltb n 64) _ _ (lt-ltb n 64 h)

  on_close : scan (next (placed Close a) z) (have (d + 1) n l) ≡ scan z (have d n l)
  on_close =
      let back : d + 1 - 1 ≡ d = omega arith in
      cond-true (ltb 0 (d + 1)) _ _ (lt-ltb 0 (d + 1) (omega arith)) ∙ ap (λ x. scan z (have x n l)) back

-- from an expected operand, the signs of a tree lead the scan behind it
abbrev Passes : List Placed → Tree Letter → ℕ → ℕ → List Letter → Type 0
Passes ss t d m l = (z : Signs) → scan (ss then z) (want d m (names_of l)) ≡ scan z (have d (m + size t) (names_of (gather l t)))

-- two operands with a sign between them
pass_two : (ss us : List Placed) (t u : Tree Letter) (o : Binary) (a d m : ℕ) (l : List Letter) → m + size t < 64 → Passes ss t d m l → Passes us u d (m + size t + 1) (gather l t) → Passes (ss ++ placed (Between o) a ∷ us) (Tree.between o t u) d m l
pass_two ss us t u o a d m l h p q z =
    let sum : m + size t + 1 + size u ≡ m + (size t + size u + 1) = omega arith in
    ap (λ x. scan x (want d m (names_of l))) (then_join ss (placed (Between o) a ∷ us) z) ∙ p (next (placed (Between o) a) (us then z)) ∙ on_between a d (m + size t) (names_of (gather l t)) (us then z) o h ∙ q z ∙ ap (λ k. scan z (have d k (names_of (gather (gather l t) u)))) sum

-- what the grammar derives, the scan goes through
through : {k : ℕ} {ss : List Placed} {t : Tree Letter} (x : Derives k ss t) (d m : ℕ) (l : List Letter) → Shallow d x → m + size t ≤ 64 → length (gather l t) ≤ 8 → Passes ss t d m l
through (a_name {w = w} {a = a}) d m l p h k z =
    on_name a d m (names_of l) z w (omega arith) (noted_room l _ k) ∙ ap (λ q. scan z (have d (m + 1) q)) (sym (names_noted l _))
through (a_truth {v = v} {a = a}) d m l p h k z = on_truth a d m (names_of l) z v (omega arith)
through (a_before {u = u} {a = a} {ss = ss} {t = t} x) d m l p h k z =
    let some = size_some t in
    let sum : m + 1 + size t ≡ m + (size t + 1) = omega arith in
    on_before a d m (names_of l) (ss then z) u (omega arith) ∙ through x d (m + 1) l p (omega arith) k z ∙ ap (λ n. scan z (have d n (names_of (gather l t)))) sum
through (a_group a c {ss = ss} {t = t} x) d m l p h k z =
    on_open a d m (names_of l) ((ss ++ placed Close c ∷ []) then z) p.0 ∙ ap (λ y. scan y (want (d + 1) m (names_of l))) (then_join ss (placed Close c ∷ []) z) ∙ through x (d + 1) m l p.1 h k (next (placed Close c) z) ∙ on_close c d (m + size t) (names_of (gather l t)) z
through (up x) d m l p h k z = through x d m l p h k z
through (to_left a {o = o} {ss = ss} {us = us} {t = t} {u = u} i g x y) d m l p h k z =
    let longer = gather_longer (gather l t) u in
    pass_two ss us t u o a d m l (omega arith) (through x d m l p.0 (omega arith) (omega arith)) (through y d (m + size t + 1) (gather l t) p.1 (omega arith) k) z
through (to_right a {o = o} {ss = ss} {us = us} {t = t} {u = u} i g x y) d m l p h k z =
    let longer = gather_longer (gather l t) u in
    pass_two ss us t u o a d m l (omega arith) (through x d m l p.0 (omega arith) (omega arith)) (through y d (m + size t + 1) (gather l t) p.1 (omega arith) k) z

-- a text within the limits has no fault
pub accepted : {s : List ℕ} → Within s → first_fault s ≡ None
unfolding first_fault
accepted {s} w =
    let small = w.small in
    let row = w.says.row in
    cond-false (ltb 512 (length s)) _ _ (le-ltb 512 (length s) w.short) ∙ ap (λ x. scan x (want 0 0 [])) w.says.spells ∙ through w.says.derives 0 0 [] w.shallow (omega arith) w.few (the_end (length s))
