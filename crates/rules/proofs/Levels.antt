-- What the descent has read, from operands up to levels. Assumes nothing.
use Rattle.std.proofs.Common.{◌≡◌, ℕ, suc, ◌+◌, ◌-◌, ◌<◌, Bool, true, false, cond, eqb, ltb, ◌⊎◌, List, [], ◌∷◌, ◌++◌, length, take, sym, refl, ap, ◌∙◌, subst, inl, inr, append_assoc, arith}
use Rattle.std.proofs.lemmas.Bool.{cond-true, lt-ltb}
use Rattle.rules.specs.Signs.{sign, lex}
use Rattle.rules.specs.Names.{place, added, names_of, names_in, table_letters, table_nodes, letter_at, gather, numbered, Numbered}
use Rattle.rules.specs.Descent.{Put, Parsed}
use Rattle.rules.specs.Grammar.{rank_of, rightward}
use Rattle.rules.specs.Rest.{halt, here, onward, Halts, NextStep, sign_rank, lex_rank, closer, rank_at, Reads, a_name, a_truth, a_before, a_group, up, to_left, to_right}
use Rattle.rules.specs.Scan.{want}
use Rattle.rules.specs.Tree.{leaf, truth, before, between, size, flatten}
use Rattle.rules.specs.declared.name.Name.{Name}
use Rattle.rules.specs.declared.node.Unary.{Unary}
use Rattle.rules.specs.declared.node.Binary.{Binary}
use Rattle.rules.specs.declared.node.Binary.TheVariants.{Until, And, Xor, Or, Implies, Iff}
use Rattle.rules.specs.declared.node.Node.{Node}
use Rattle.rules.specs.declared.rule.Table.{Table}
use Rattle.rules.specs.declared.sign.Sign.{Sign}
use Rattle.rules.specs.declared.sign.Sign.TheVariants.{Before, Between, Truth, Open, Close, End}
use Rattle.rules.specs.declared.sign.Stop.{Stop}
use Rattle.rules.specs.declared.spot.Spot.{Spot}
use Rattle.rules.proofs.Fronts.{shorter}
use Rattle.rules.proofs.Numbering.{names_noted, numbered_still, size_numbered}
use Rattle.rules.proofs.Steps.{trans, later, at_once, renumber, step_name, step_truth, step_before, step_open, step_between, step_close}

-- `put` leaves the letters
same_letters : {b e : Table} {n : Node} {z : ℕ} → Put b e n z → table_letters b ≡ table_letters e
same_letters w = sym (λ i. take (w.count i) (w.letters i))

-- what a callee says of its own spot, said of an equal one
pub halts_at : {s : List ℕ} (n : ℕ) {l : List Name} {f : Stop} {q o : Spot} → q ≡ o → Halts s (want q.depth (n + q.pending) l) f → Halts s (want o.depth (n + o.pending) l) f
halts_at {s} n {l} {f} e h = subst (λ (q : Spot). Halts s (want q.depth (n + q.pending) l) f) e h

pub parsed_at : {k : ℕ} {s r : List ℕ} {a b : Table} {x : ℕ} {q o : Spot} → q ≡ o → Parsed q.total k s r q.depth q.pending a b x → Parsed o.total k s r o.depth o.pending a b x
parsed_at {k} {s} {r} {a} {b} {x} e h = subst (λ (q : Spot). Parsed q.total k s r q.depth q.pending a b x) e h

-- OPERANDS

pub name_parsed : {N : ℕ} {s r : List ℕ} {d p : ℕ} {a b c : Table} {x k : ℕ} {w : Name} → lex s ≡ sign (Sign.Name w) r → a.size + p < 64 → Numbered a b (letter_at N s w) k → Put b c (Node.Letter k) x → Parsed N 7 s r d p a c x
name_parsed {N} {s} {r} {d} {p} {a} {b} {c} {x} {k} {w} e h m u =
    let same = same_letters u in
    let names : added (names_in a) w ≡ names_in c = sym (names_noted (table_letters a) (letter_at N s w)) ∙ ap names_of (sym m.keeps ∙ same) in
    let at : k ≡ place (names_in c) w = m.is ∙ ap (λ z. place (names_of z) w) same in
    record {
      tree = leaf (letter_at N s w);
      reads = a_name e;
      scans = renumber refl (omega arith) names (onward (step_name s r d (a.size + p) (names_in a) e h m.room) here);
      long = omega arith;
      fits = omega arith;
      wrote = u.nodes ∙ (λ i. take (m.size i) (m.nodes i) ++ Node.Letter (at i) ∷ []);
      notes = sym same ∙ m.keeps;
      root = omega arith;
      shorter = shorter s e (λ no. cc);
    }

pub truth_parsed : {N : ℕ} {s r : List ℕ} {d p : ℕ} {a b : Table} {x : ℕ} {v : Bool} → lex s ≡ sign (Truth v) r → a.size + p < 64 → Put a b (Node.Truth v) x → Parsed N 7 s r d p a b x
truth_parsed {N} {s} {r} {d} {p} {a} {b} {x} {v} e h w =
    record {
      tree = truth v;
      reads = a_truth e;
      scans = renumber refl (omega arith) (ap names_of (same_letters w)) (onward (step_truth s r d (a.size + p) (names_in a) e h) here);
      long = w.size;
      fits = omega arith;
      wrote = w.nodes;
      notes = sym (same_letters w);
      root = omega arith;
      shorter = shorter s e (λ no. cc);
    }

pub before_parsed : {N : ℕ} {s m r : List ℕ} {d p : ℕ} {a b c : Table} {x y : ℕ} {u : Unary} → lex s ≡ sign (Before u) m → a.size + p < 64 → Parsed N 7 m r d (p + 1) a b y → Put b c (Node.Before u y) x → Parsed N 7 s r d p a c x
before_parsed {N} {s} {m} {r} {d} {p} {a} {b} {c} {x} {y} {u} e h q w =
    let same = same_letters w in
    let T = numbered (table_letters c) q.tree in
    let at : y ≡ a.size + size T - 1 = omega (arith, size_numbered (table_letters c) q.tree) in
    let less : length m < length s = shorter s e (λ no. cc) in
    let inner : table_nodes b ≡ table_nodes a ++ flatten T a.size = q.wrote ∙ ap (λ z. table_nodes a ++ flatten (numbered z q.tree) a.size) same in
    record {
      tree = before u q.tree;
      reads = a_before e q.reads;
      scans = onward (step_before s m d (a.size + p) (names_in a) e h) (renumber (omega arith) (omega arith) (ap names_of same) q.scans);
      long = omega arith;
      fits = omega arith;
      wrote = w.nodes ∙ ap (λ k. k ++ Node.Before u y ∷ []) inner ∙ append_assoc (table_nodes a) (flatten T a.size) (Node.Before u y ∷ []) ∙ ap (λ k. table_nodes a ++ (flatten T a.size ++ Node.Before u k ∷ [])) at;
      notes = sym same ∙ q.notes;
      root = omega arith;
      shorter = omega arith;
    }

pub group_parsed : {N : ℕ} {s m e r : List ℕ} {d p : ℕ} {a b : Table} {x : ℕ} → lex s ≡ sign Open m → d < 16 → Parsed N 1 m e (d + 1) p a b x → lex e ≡ sign (closer (d + 1)) r → Parsed N 7 s r d p a b x
group_parsed {N} {s} {m} {e} {r} {d} {p} {a} {b} {x} o h q k =
    let c : lex e ≡ sign Close r = k ∙ ap (λ n. sign n r) (cond-true (ltb 0 (d + 1)) Close End (lt-ltb 0 (d + 1) (omega arith))) in
    let first : length m < length s = shorter s o (λ no. cc) in
    let last : length r < length e = shorter e c (λ no. cc) in
    record {
      tree = q.tree;
      reads = a_group o q.reads c;
      scans = onward (step_open s m d (a.size + p) (names_in a) o h) (trans q.scans (onward (step_close e r d (b.size + p) (names_in b) c) here));
      long = q.long;
      fits = q.fits;
      wrote = q.wrote;
      notes = q.notes;
      root = q.root;
      shorter = omega arith;
    }

-- LEVELS

-- what the loop of `level` keeps: a tree of level k, which is tighter still where a sign that groups to the right comes next
pub record Sofar (N k : ℕ) (s r : List ℕ) (d p : ℕ) (a b : Table) (x : ℕ) : Type 0 where
  pub parsed : Parsed N k s r d p a b x
  pub below : rank_at r < suc k
  pub free : (o : Binary) → rank_at r ≡ k → rank_of o ≡ k → rightward o ≡ true → Reads N (suc k) s r parsed.tree

pub start : {N k : ℕ} {s r : List ℕ} {d p : ℕ} {a b : Table} {x : ℕ} → Parsed N (suc k) s r d p a b x × (rank_at r < suc k) → Sofar N k s r d p a b x
start h =
    let q = h.0 in
    record {
      parsed = record { tree = q.tree; reads = up q.reads; scans = q.scans; long = q.long; fits = q.fits; wrote = q.wrote; notes = q.notes; root = q.root; shorter = q.shorter };
      below = h.1;
      free = λ _ _ _ _. q.reads;
    }

abbrev side : ℕ → Bool
side k = cond (eqb k 2) true (eqb k 6)

side_of : (o : Binary) → side (rank_of o) ≡ rightward o
side_of Until = refl
side_of And = refl
side_of Xor = refl
side_of Or = refl
side_of Implies = refl
side_of Iff = refl

pub one_side : (o w : Binary) → rank_of o ≡ rank_of w → rightward o ≡ rightward w
one_side o w e = sym (side_of o) ∙ ap side e ∙ side_of w

rank_next : (s : List ℕ) {r : List ℕ} {m : Sign} → lex s ≡ sign m r → rank_at s ≡ sign_rank m
rank_next s e = ap lex_rank e

two_parsed : {N k j : ℕ} {s m n r : List ℕ} {d p : ℕ} {a b c e : Table} {x y z : ℕ} {o : Binary} (P : Parsed N k s m d p a b x) (Q : Parsed N j n r d (p + 1) b c y) → lex m ≡ sign (Between o) n → b.size + p < 64 → Reads N k s r (between o P.tree Q.tree) → Put c e (Node.Between o x y) z → Parsed N k s r d p a e z
two_parsed {N} {k} {j} {s} {m} {n} {r} {d} {p} {a} {b} {c} {e} {x} {y} {z} {o} P Q l h reads w =
    let less : length n < length m = shorter m l (λ no. cc) in
    let t = P.tree in
    let u = Q.tree in
    let same = same_letters w in
    let A = table_nodes a in
    let T = numbered (table_letters e) t in
    let U = numbered (table_letters e) u in
    let st = size_numbered (table_letters e) t in
    let su = size_numbered (table_letters e) u in
    let F = flatten T a.size in
    let G = flatten U (a.size + size T) in
    let V = Node.Between o x y ∷ [] in
    let left : numbered (table_letters b) t ≡ T = ap (λ z. numbered z t) P.notes ∙ sym (numbered_still (table_letters a) t u) ∙ ap (λ z. numbered (gather z u) t) (sym P.notes) ∙ ap (λ z. numbered z t) (sym Q.notes ∙ same) in
    let atb : b.size ≡ a.size + size T = omega arith in
    let atx : x ≡ a.size + size T - 1 = omega arith in
    let aty : y ≡ a.size + size T + size U - 1 = omega arith in
    let front : table_nodes b ≡ A ++ F = P.wrote ∙ ap (λ z. A ++ flatten z a.size) left in
    let all : table_nodes c ≡ (A ++ F) ++ G = Q.wrote ∙ (λ i. front i ++ flatten (numbered (same i) u) (atb i)) in
    record {
      tree = between o t u;
      reads = reads;
      scans = trans P.scans (onward (step_between m n d (b.size + p) (names_in b) l h) (renumber (omega arith) (omega arith) (ap names_of same) Q.scans));
      long = omega arith;
      fits = omega arith;
      wrote = w.nodes ∙ ap (λ k. k ++ V) all ∙ append_assoc (A ++ F) G V ∙ append_assoc A F (G ++ V) ∙ (λ i. A ++ (F ++ (G ++ Node.Between o (atx i) (aty i) ∷ [])));
      notes = sym same ∙ Q.notes ∙ ap (λ k. gather k u) P.notes;
      root = omega arith;
      shorter = omega arith;
    }

turn_right : {N k : ℕ} {s m n r : List ℕ} {d p : ℕ} {a b c e : Table} {x y z : ℕ} {o : Binary} → Sofar N k s m d p a b x → lex m ≡ sign (Between o) n → rank_of o ≡ k → rightward o ≡ true → b.size + p < 64 → Parsed N k n r d (p + 1) b c y × (rank_at r < k) → Put c e (Node.Between o x y) z → Sofar N k s r d p a e z
turn_right {N} {k} {s} {m} {n} {r} {o = o} S l i g h Q w =
    let lt = Q.1 in
    record {
      parsed = two_parsed S.parsed Q.0 l h (to_right i g (S.free o (rank_next m l ∙ i) i g) l Q.0.reads) w;
      below = omega arith;
      free = λ _ same _ _. absurd (omega arith);
    }

turn_left : {N k : ℕ} {s m n r : List ℕ} {d p : ℕ} {a b c e : Table} {x y z : ℕ} {o : Binary} → Sofar N k s m d p a b x → lex m ≡ sign (Between o) n → rank_of o ≡ k → rightward o ≡ false → b.size + p < 64 → Parsed N (suc k) n r d (p + 1) b c y × (rank_at r < suc k) → Put c e (Node.Between o x y) z → Sofar N k s r d p a e z
turn_left {o = o} S l i g h Q w =
    record {
      parsed = two_parsed S.parsed Q.0 l h (to_left i g S.parsed.reads l Q.0.reads) w;
      below = Q.1;
      free = λ v _ j t. let no : true ≡ false = sym t ∙ one_side v o (j ∙ sym i) ∙ g in absurd cc;
    }

-- a fault behind a left side and its sign
pub behind_between : {N k : ℕ} {s m n : List ℕ} {d p : ℕ} {a b : Table} {x : ℕ} {o : Binary} {f : Stop} → Parsed N k s m d p a b x → lex m ≡ sign (Between o) n → b.size + p < 64 → Halts n (want d (b.size + (p + 1)) (names_in b)) f → Halts s (want d (a.size + p) (names_in a)) f
behind_between {m = m} {n = n} {d = d} {p = p} {b = b} {f = f} P l h x =
    let same : b.size + (p + 1) ≡ b.size + p + 1 = omega arith in
    later (trans P.scans (onward (step_between m n d (b.size + p) (names_in b) l h) here)) (subst (λ k. Halts n (want d k (names_in b)) f) same x)

-- the right side of a sign: of level k if the sign groups to the right, else tighter
abbrev pub Side : ℕ → Binary → ℕ → List ℕ → List ℕ → ℕ → ℕ → Table → Table → ℕ → Type 0
Side N o k n r d p b c y =
    ((rightward o ≡ true) × (Parsed N k n r d p b c y × (rank_at r < k))) ⊎ ((rightward o ≡ false) × (Parsed N (suc k) n r d p b c y × (rank_at r < suc k)))

pub side_shorter : (o : Binary) {N k : ℕ} {n r : List ℕ} {d p : ℕ} {b c : Table} {y : ℕ} → Side N o k n r d p b c y → length r < length n
side_shorter o (inl q) = q.1.0.shorter
side_shorter o (inr q) = q.1.0.shorter

pub turn_on : {N k : ℕ} {s m n r : List ℕ} {d p : ℕ} {a b c e : Table} {x y z : ℕ} {o : Binary} → Sofar N k s m d p a b x → lex m ≡ sign (Between o) n → rank_of o ≡ k → b.size + p < 64 → Side N o k n r d (p + 1) b c y → Put c e (Node.Between o x y) z → Sofar N k s r d p a e z
turn_on S l i h (inl q) w = turn_right S l i q.0 h q.1 w
turn_on S l i h (inr q) w = turn_left S l i q.0 h q.1 w

-- a fault behind the whole rule
pub behind_rule : {N : ℕ} {s r : List ℕ} {a b : Table} {x : ℕ} {f : Stop} → a.size ≡ 0 → a.count ≡ 0 → Parsed N 1 s r 0 0 a b x → NextStep r 0 (halt f) → Halts s (want 0 0 []) f
behind_rule {s = s} {a = a} {b = b} {f = f} z k P e =
    let start : want 0 (a.size + 0) (names_in a) ≡ want 0 0 [] = λ i. want 0 (z i + 0) (names_of (take (k i) a.letters)) in
    subst (λ σ. Halts s σ f) start (later P.scans (at_once (e (b.size + 0) (names_in b))))
