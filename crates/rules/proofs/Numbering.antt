-- The numbers of letters by first appearance. Assumes nothing.
use Rattle.std.proofs.Common.{◌≡◌, ℕ, suc, ◌+◌, ◌<◌, ◌≤◌, true, false, cond, ltb, List, [], ◌∷◌, ◌++◌, length, take, set, Some, None, Option, MatchOption, sym, refl, ap, ◌∙◌, subst, ⊎_elim, arith}
use Rattle.std.specs.List.{position_or_len}
use Rattle.std.proofs.lemmas.List.{append-nil, append_assoc, map-append, length-map, length-take-le, take_more_set, length-append, length_push}
use Rattle.std.proofs.lemmas.List.Recursion.{is_position_or_len}
use Rattle.std.proofs.lemmas.Bool.{cond-true, cond-false, cond_both, lt-ltb, le-ltb, ltb-true, ltb-false, cases_Bool}
use Rattle.rules.specs.Names.{spelled, same_name, names_of, number_in, place, added, noted, gather, numbered, table_letters, names_in}
use Rattle.rules.specs.Tree.{Tree, leaf, truth, before, between, size}
use Rattle.rules.specs.declared.name.Name.{Name}
use Rattle.rules.specs.declared.rule.Letter.{Letter}
use Rattle.rules.specs.declared.rule.Table.{Table}
use Rattle.rules.proofs.SameName.{same_self}

-- A PLACE, as a search from the front finds it

place_position : (l : List Letter) (w : Name) → place (names_of l) w ≡ position_or_len (λ x. same_name (spelled x.name) (spelled w)) l
place_position l w =
    is_position_or_len (λ k. place (names_of k) w) (λ x. same_name (spelled x.name) (spelled w)) refl
    (λ x xs. let e : suc (place (names_of xs) w) ≡ 1 + place (names_of xs) w = omega arith in ap (cond (same_name (spelled x.name) (spelled w)) 0) e)
    l

pub found : (l : List Letter) (w : Name) (o : Option ℕ) → o ≡ number_in l w → MatchOption o (length l ≤ place (names_of l) w) (λ i. (i < length l) × (i ≡ place (names_of l) w))
found l w o e =
    let p = place_position l w in
    let n = position_or_len (λ (x : Letter). same_name (spelled x.name) (spelled w)) l in
    rw e
    (cond_both (ltb n (length l)) (Some n) None (λ z. MatchOption z (length l ≤ place (names_of l) w) (λ i. (i < length l) × (i ≡ place (names_of l) w)))
    (λ h. (ltb-true n (length l) h, sym p))
    (λ h. omega (arith, ltb-false n (length l) h)))

pub place_le : (l : List Letter) (w : Name) → place (names_of l) w ≤ length l
place_le [] w = omega arith
place_le (x ∷ l) w =
    let h = place_le l w in
    cond_both (same_name (spelled x.name) (spelled w)) 0 (suc (place (names_of l) w)) (λ n. n ≤ suc (length l)) (λ _. omega arith) (λ _. omega arith)

-- A PLACE IN A LONGER LIST

place_old : (l m : List Name) (w : Name) → place l w < length l → place (l ++ m) w ≡ place l w
place_old [] m w h = absurd (omega arith)
place_old (x ∷ l) m w h =
    let b = same_name (spelled x) (spelled w) in
    ⊎_elim
    (λ (e : b ≡ true). cond-true b 0 (suc (place (l ++ m) w)) e ∙ sym (cond-true b 0 (suc (place l w)) e))
    (λ (e : b ≡ false). let f = cond-false b 0 (suc (place l w)) e in cond-false b 0 (suc (place (l ++ m) w)) e ∙ ap suc (place_old l m w (omega (arith, f))) ∙ sym f)
    (cases_Bool b)

place_past : (l m : List Name) (w : Name) → length l ≤ place l w → place (l ++ m) w ≡ length l + place m w
place_past [] m w h = omega arith
place_past (x ∷ l) m w h =
    let b = same_name (spelled x) (spelled w) in
    ⊎_elim
    (λ (e : b ≡ true). let f = cond-true b 0 (suc (place l w)) e in absurd (omega (arith, f)))
    (λ (e : b ≡ false). let f = cond-false b 0 (suc (place l w)) e in let g = place_past l m w (omega (arith, f)) in cond-false b 0 (suc (place (l ++ m) w)) e ∙ omega (arith, g))
    (cases_Bool b)

names_join : (l m : List Letter) → names_of (l ++ m) ≡ names_of l ++ names_of m
names_join l m = map-append (λ (y : Letter). y.name) l m

names_long : (l : List Letter) → length (names_of l) ≡ length l
names_long l = length-map l (λ (y : Letter). y.name)

pub place_new : (l : List Letter) (x : Letter) → length l ≤ place (names_of l) x.name → place (names_of (l ++ x ∷ [])) x.name ≡ length l
place_new l x h =
    let w = x.name in
    let n = names_long l in
    let z : place (w ∷ []) w ≡ 0 = cond-true (same_name (spelled w) (spelled w)) 0 1 (same_self (spelled w)) in
    let p = place_past (names_of l) (w ∷ []) w (omega arith) in
    ap (λ k. place k w) (names_join l (x ∷ [])) ∙ omega arith

-- ONE LETTER MORE

pub known_letter : (a : Table) (x : Letter) → a.count ≤ length a.letters → place (names_in a) x.name < a.count → table_letters a ≡ noted (table_letters a) x
known_letter a x h k =
    let n = length-take-le a.count a.letters h in
    sym (cond-true (ltb (place (names_in a) x.name) (length (table_letters a))) (table_letters a) _ (lt-ltb _ _ (omega (arith, n))))

pub new_letter : (a : Table) (x : Letter) → a.count < length a.letters → a.count ≤ place (names_in a) x.name → take (a.count + 1) (set a.letters a.count x) ≡ noted (table_letters a) x
new_letter a x h k =
    let n = length-take-le a.count a.letters (omega arith) in
    take_more_set a.letters a.count x h ∙ sym (cond-false (ltb (place (names_in a) x.name) (length (table_letters a))) (table_letters a) (table_letters a ++ x ∷ []) (le-ltb _ _ (omega (arith, n))))

pub names_noted : (l : List Letter) (x : Letter) → names_of (noted l x) ≡ added (names_of l) x.name
names_noted l x =
    let p = place (names_of l) x.name in
    let b = ltb p (length l) in
    let same : ltb p (length (names_of l)) ≡ b = ap (ltb p) (names_long l) in
    ⊎_elim
    (λ (e : b ≡ true). ap names_of (cond-true b l (l ++ x ∷ []) e) ∙ sym (cond-true (ltb p (length (names_of l))) (names_of l) (names_of l ++ x.name ∷ []) (same ∙ e)))
    (λ (e : b ≡ false). ap names_of (cond-false b l (l ++ x ∷ []) e) ∙ names_join l (x ∷ []) ∙ sym (cond-false (ltb p (length (names_of l))) (names_of l) (names_of l ++ x.name ∷ []) (same ∙ e)))
    (cases_Bool b)

-- THE LETTERS OF A TREE

-- each name of the tree is a letter's
abbrev pub Known : List Letter → Tree Letter → Type 0
Known l (leaf x) = place (names_of l) x.name < length l
Known l (truth v) = Unit {0}
Known l (before u t) = Known l t
Known l (between o t u) = Known l t × Known l u

numbered_more : (l m : List Letter) (t : Tree Letter) → Known l t → numbered (l ++ m) t ≡ numbered l t
numbered_more l m (leaf x) k =
    let n = names_long l in
    ap leaf (ap (λ z. place z x.name) (names_join l m) ∙ place_old (names_of l) (names_of m) x.name (omega arith))
numbered_more l m (truth v) k = refl
numbered_more l m (before u t) k = ap (before u) (numbered_more l m t k)
numbered_more l m (between o t u) k = λ i. between o (numbered_more l m t k.0 i) (numbered_more l m u k.1 i)

noted_known : (l : List Letter) (x : Letter) → place (names_of (noted l x)) x.name < length (noted l x)
noted_known l x =
    let p = place (names_of l) x.name in
    cond_both (ltb p (length l)) l (l ++ x ∷ []) (λ m. place (names_of m) x.name < length m)
    (λ e. ltb-true p (length l) e)
    (λ e. omega (arith, place_new l x (ltb-false p (length l) e), length_push l x))

noted_front : (l : List Letter) (x : Letter) → (m : List Letter) × (noted l x ≡ l ++ m)
noted_front l x =
    cond_both (ltb (place (names_of l) x.name) (length l)) l (l ++ x ∷ []) (λ z. (m : List Letter) × (z ≡ l ++ m)) (λ _. ([], sym (append-nil l))) (λ _. (x ∷ [], refl))

pub gather_front : (l : List Letter) (t : Tree Letter) → (m : List Letter) × (gather l t ≡ l ++ m)
gather_front l (leaf x) = noted_front l x
gather_front l (truth v) = ([], sym (append-nil l))
gather_front l (before u t) = gather_front l t
gather_front l (between o t u) =
    let f = gather_front l t in
    let g = gather_front (gather l t) u in
    (f.0 ++ g.0, g.1 ∙ ap (λ k. k ++ g.0) f.1 ∙ append_assoc l f.0 g.0)

known_more : (l m : List Letter) (t : Tree Letter) → Known l t → Known (l ++ m) t
known_more l m (leaf x) k =
    let n = names_long l in
    omega (arith, ap (λ z. place z x.name) (names_join l m) ∙ place_old (names_of l) (names_of m) x.name (omega arith), length-append l m)
known_more l m (truth v) k = tt
known_more l m (before u t) k = known_more l m t k
known_more l m (between o t u) k = (known_more l m t k.0, known_more l m u k.1)

pub gather_known : (l : List Letter) (t : Tree Letter) → Known (gather l t) t
gather_known l (leaf x) = noted_known l x
gather_known l (truth v) = tt
gather_known l (before u t) = gather_known l t
gather_known l (between o t u) =
    let f = gather_front (gather l t) u in
    (subst (λ k. Known k t) (sym f.1) (known_more (gather l t) f.0 t (gather_known l t)), gather_known (gather l t) u)

-- later letters leave the numbers of a tree
pub numbered_still : (l : List Letter) (t u : Tree Letter) → numbered (gather (gather l t) u) t ≡ numbered (gather l t) t
numbered_still l t u =
    let f = gather_front (gather l t) u in
    ap (λ k. numbered k t) f.1 ∙ numbered_more (gather l t) f.0 t (gather_known l t)

pub size_numbered : (l : List Letter) (t : Tree Letter) → size (numbered l t) ≡ size t
size_numbered l (leaf x) = refl
size_numbered l (truth v) = refl
size_numbered l (before u t) = ap (λ n. n + 1) (size_numbered l t)
size_numbered l (between o t u) = λ i. size_numbered l t i + size_numbered l u i + 1
