-- From the bytes that are left of a text to its signs: what the descent and its scan found holds of the text's signs. Assumes nothing.
use Rattle.std.proofs.Common.{◌≡◌, ℕ, zero, suc, ◌-◌, ◌<◌, Bool, true, false, cond, ltb, List, [], ◌∷◌, ◌++◌, length, Some, None, Option, sym, refl, ap, ◌∙◌, subst, arith}
use Rattle.std.proofs.lemmas.Bool.{cond_both, cond-false}
use Rattle.rules.specs.Faults.{fault_at, fault_of}
use Rattle.rules.specs.Grammar.{rank_of, rightward, Derives}
use Rattle.rules.specs.Names.{place}
use Rattle.rules.specs.Rest.{Out, go, halt, done, turn, step, Reach, here, onward, Halts, Ended, Reads, a_name, a_truth, a_before, a_group, up, to_left, to_right}
use Rattle.rules.specs.Scan.{State, react, scan}
use Rattle.rules.specs.Signs.{Lexed, sign, bad, lex, stop_at, skipped}
use Rattle.rules.specs.Text.{Placed, placed, Signs, next, the_end, ◌then◌, is_end, byte_at, found, signs_from}
use Rattle.rules.specs.Tree.{Tree, between}
use Rattle.rules.specs.declared.fault.Fault.{Fault}
use Rattle.rules.specs.declared.node.Binary.{Binary}
use Rattle.rules.specs.declared.rule.Letter.{Letter}
use Rattle.rules.specs.declared.sign.Sign.{Sign}
use Rattle.rules.specs.declared.sign.Sign.TheVariants.{Before, Between, Truth, Open, Close, End}
use Rattle.rules.specs.declared.sign.Stop.{Stop}
use Rattle.rules.specs.declared.sign.Why.{Why}
use Rattle.rules.proofs.Fronts.{shorter, at_end_lem}

-- ONE SIGN

either_by : {A B : Type 0} (h : A → B) (b : Bool) {x y : A} {v w : B} → h x ≡ v → h y ≡ w → h (cond b x y) ≡ cond b v w
either_by h b {x} {y} {v} {w} p q = elim b as (λ k. h (cond k x y) ≡ cond k v w) [ true ↦ p | false ↦ q ]

-- what is made of the outcome of a sign is the outcome of what is made
react_by : {A B : Type 0} (h : A → B) (σ : State) (on : State → A) (off : Why → A) (last : A) (m : Sign) → h (react m σ on off last) ≡ react m σ (λ τ. h (on τ)) (λ w. h (off w)) (h last)
react_by h σ on off last (Before u) = either_by h σ.operand (either_by h (ltb σ.made 64) refl refl) refl
react_by h σ on off last (Between b) = either_by h σ.operand refl (either_by h (ltb σ.made 64) refl refl)
react_by h σ on off last (Truth v) = either_by h σ.operand (either_by h (ltb σ.made 64) refl refl) refl
react_by h σ on off last (Sign.Name w) = either_by h σ.operand (either_by h (ltb σ.made 64) (either_by h (ltb (place σ.known w) 8) refl refl) refl) refl
react_by h σ on off last Open = either_by h σ.operand (either_by h (ltb σ.depth 16) refl refl) refl
react_by h σ on off last Close = either_by h σ.operand refl (either_by h (ltb 0 σ.depth) refl refl)
react_by h σ on off last End = either_by h σ.operand refl (either_by h (ltb 0 σ.depth) refl refl)

-- what the signs behind a step say
abbrev told : ℕ → ℕ → Out → Option Fault
told most n (go r τ) = scan (signs_from most n r) τ
told most n (halt f) = Some (fault_of n f)
told most n done = None

scan_found : (most n : ℕ) (s : List ℕ) (σ : State) (l : Lexed) → lex s ≡ l → scan (found l n s (signs_from most n)) σ ≡ told most n (turn l s σ)
scan_found most n s σ (sign (Before u) r) e = sym (react_by (told most n) σ (go r) (λ w. halt (stop_at w s)) done (Before u))
scan_found most n s σ (sign (Between b) r) e = sym (react_by (told most n) σ (go r) (λ w. halt (stop_at w s)) done (Between b))
scan_found most n s σ (sign (Truth v) r) e = sym (react_by (told most n) σ (go r) (λ w. halt (stop_at w s)) done (Truth v))
scan_found most n s σ (sign (Sign.Name k) r) e = sym (react_by (told most n) σ (go r) (λ w. halt (stop_at w s)) done (Sign.Name k))
scan_found most n s σ (sign Open r) e = sym (react_by (told most n) σ (go r) (λ w. halt (stop_at w s)) done Open)
scan_found most n s σ (sign Close r) e = sym (react_by (told most n) σ (go r) (λ w. halt (stop_at w s)) done Close)
scan_found most n s σ (sign End r) e =
    let here : n ≡ n - length (skipped s) = omega (arith, at_end_lem s e) in
    ap (λ a. react End σ (λ τ. None) (λ w. Some (fault_at w a)) None) here ∙ sym (react_by (told most n) σ (go r) (λ w. halt (stop_at w s)) done End)
scan_found most n s σ (bad f) e = refl

-- one sign of the scan is one step
scan_step : (most n : ℕ) (s : List ℕ) (σ : State) → scan (signs_from (suc most) n s) σ ≡ told most n (step s σ)
scan_step most n s σ = scan_found most n s σ (lex s) refl

-- A STEP TAKES A BYTE

abbrev Less : ℕ → Out → Type 0
Less n (go r τ) = length r < n
Less n (halt f) = Unit {0}
Less n done = Unit {0}

less_either : (n : ℕ) (b : Bool) (x y : Out) → Less n x → Less n y → Less n (cond b x y)
less_either n b x y h k = cond_both b x y (Less n) (λ _. h) (λ _. k)

less_turn : (s : List ℕ) (σ : State) (l : Lexed) → lex s ≡ l → Less (length s) (turn l s σ)
less_turn s σ (sign (Before u) r) e = less_either (length s) σ.operand _ _ (less_either (length s) (ltb σ.made 64) _ _ (shorter s e (λ no. cc)) tt) tt
less_turn s σ (sign (Between b) r) e = less_either (length s) σ.operand _ _ tt (less_either (length s) (ltb σ.made 64) _ _ (shorter s e (λ no. cc)) tt)
less_turn s σ (sign (Truth v) r) e = less_either (length s) σ.operand _ _ (less_either (length s) (ltb σ.made 64) _ _ (shorter s e (λ no. cc)) tt) tt
less_turn s σ (sign (Sign.Name w) r) e =
    less_either (length s) σ.operand _ _ (less_either (length s) (ltb σ.made 64) _ _ (less_either (length s) (ltb (place σ.known w) 8) _ _ (shorter s e (λ no. cc)) tt) tt) tt
less_turn s σ (sign Open r) e = less_either (length s) σ.operand _ _ (less_either (length s) (ltb σ.depth 16) _ _ (shorter s e (λ no. cc)) tt) tt
less_turn s σ (sign Close r) e = less_either (length s) σ.operand _ _ tt (less_either (length s) (ltb 0 σ.depth) _ _ (shorter s e (λ no. cc)) tt)
less_turn s σ (sign End r) e = less_either (length s) σ.operand _ _ tt (less_either (length s) (ltb 0 σ.depth) _ _ tt tt)
less_turn s σ (bad f) e = tt

step_less : (s m : List ℕ) (σ τ : State) → step s σ ≡ go m τ → length m < length s
step_less s m σ τ e = subst (Less (length s)) e (less_turn s σ (lex s) refl)

-- THE SCAN

-- the steps up to r leave the scan of r's signs
reach_scan : {s r : List ℕ} {σ τ : State} (n : ℕ) → Reach s σ r τ → (f : ℕ) → length s < f → (g : ℕ) × (length r < g) × (scan (signs_from f n s) σ ≡ scan (signs_from g n r) τ)
reach_scan n here f h = (f, h, refl)
reach_scan n (onward e p) zero h = absurd (omega arith)
reach_scan {s} {r} {σ} n (onward {m = m} {τ = υ} e p) (suc f) h =
    let less = step_less s m σ υ e in
    let w = reach_scan n p f (omega arith) in
    (w.0, w.1, scan_step f n s σ ∙ ap (told f n) e ∙ w.2)

last_told : (r : List ℕ) (τ : State) (n : ℕ) {o : Out} → step r τ ≡ o → (x : Option Fault) → ((g : ℕ) → told g n o ≡ x) → (g : ℕ) → length r < g → scan (signs_from g n r) τ ≡ x
last_told r τ n e x t zero h = absurd (omega arith)
last_told r τ n e x t (suc g) h = scan_step g n r τ ∙ ap (told g n) e ∙ t g

-- a fault of the steps is the scan's
pub halts_scan : {s : List ℕ} {σ : State} {x : Stop} (n f : ℕ) → Halts s σ x → length s < f → scan (signs_from f n s) σ ≡ Some (fault_of n x)
halts_scan {x = x} n f h l =
    let w = reach_scan n h.leads f l in
    w.2 ∙ last_told h.at h.in_state n h.stops (Some (fault_of n x)) (λ g. refl) w.0 w.1

-- steps up to a last one find no fault
pub done_scan : {s r : List ℕ} {σ τ : State} (n f : ℕ) → Reach s σ r τ → step r τ ≡ done → length s < f → scan (signs_from f n s) σ ≡ None
done_scan {r = r} {τ = τ} n f p e l =
    let w = reach_scan n p f l in
    w.2 ∙ last_told r τ n e None (λ g. refl) w.0 w.1

-- THE GRAMMAR

pub then_join : (xs ys : List Placed) (x : Signs) → (xs ++ ys) then x ≡ xs then (ys then x)
then_join [] ys x = refl
then_join (p ∷ xs) ys x = ap (next p) (then_join xs ys x)

-- in a text of n bytes, from s up to r stand these signs
pub record Spans (n : ℕ) (s : List ℕ) (row : List Placed) (r : List ℕ) : Type 0 where
  pub all : (f : ℕ) → length s < f → (g : ℕ) × (length r < g) × (signs_from f n s ≡ row then signs_from g n r)

span_found : (n f : ℕ) (s r : List ℕ) (m : Sign) → lex s ≡ sign m r → is_end m ≡ false → signs_from (suc f) n s ≡ next (placed m (byte_at n s)) (signs_from f n r)
span_found n f s r m e h = ap (λ l. found l n s (signs_from f n)) e ∙ cond-false (is_end m) _ _ h

one_then : (n : ℕ) (s r : List ℕ) (m : Sign) → lex s ≡ sign m r → is_end m ≡ false → (f : ℕ) → length s < f → (g : ℕ) × (length r < g) × (signs_from f n s ≡ next (placed m (byte_at n s)) (signs_from g n r))
one_then n s r m e h zero l = absurd (omega arith)
one_then n s r m e h (suc f) l =
    let less : length r < length s = shorter s e (λ end. let no : true ≡ false = sym (ap is_end end) ∙ h in cc) in
    (f, omega arith, span_found n f s r m e h)

span_one : (n : ℕ) (s r : List ℕ) (m : Sign) → lex s ≡ sign m r → is_end m ≡ false → Spans n s (placed m (byte_at n s) ∷ []) r
span_one n s r m e h = record { all = one_then n s r m e h }

span_join : {n : ℕ} {s m r : List ℕ} {xs ys : List Placed} → Spans n s xs m → Spans n m ys r → Spans n s (xs ++ ys) r
span_join {xs = xs} {ys = ys} p q =
    record {
      all = λ f l.
          let v = p.all f l in
          let w = q.all v.0 v.1 in
          (w.0, w.1, v.2 ∙ ap (λ x. xs then x) w.2 ∙ sym (then_join xs ys _));
    }

-- the signs of a part, and that the grammar derives its tree from them
pub record Part (n k : ℕ) (s r : List ℕ) (t : Tree Letter) : Type 0 where
  pub row : List Placed
  pub spans : Spans n s row r
  pub derives : Derives k row t

module _ {n k : ℕ} {s m e r : List ℕ} {o : Binary} {t u : Tree Letter} where
  part_left : rank_of o ≡ k → rightward o ≡ false → Part n k s m t → lex m ≡ sign (Between o) e → Part n (suc k) e r u → Part n k s r (between o t u)
  part_left i g p l q =
      record { row = _; spans = span_join p.spans (span_join (span_one n m e (Between o) l refl) q.spans); derives = Derives.to_left (byte_at n m) i g p.derives q.derives }

  part_right : rank_of o ≡ k → rightward o ≡ true → Part n (suc k) s m t → lex m ≡ sign (Between o) e → Part n k e r u → Part n k s r (between o t u)
  part_right i g p l q =
      record { row = _; spans = span_join p.spans (span_join (span_one n m e (Between o) l refl) q.spans); derives = Derives.to_right (byte_at n m) i g p.derives q.derives }

-- what is read from the bytes, the grammar derives from the signs
pub part : {n k : ℕ} {s r : List ℕ} {t : Tree Letter} → Reads n k s r t → Part n k s r t
part {n} {s = s} {r = r} (a_name {w = w} e) = record { row = placed (Sign.Name w) (byte_at n s) ∷ []; spans = span_one n s r (Sign.Name w) e refl; derives = Derives.a_name }
part {n} {s = s} {r = r} (a_truth {v = v} e) = record { row = placed (Truth v) (byte_at n s) ∷ []; spans = span_one n s r (Truth v) e refl; derives = Derives.a_truth }
part {n} {s = s} (a_before {m = m} {u = u} e x) =
    let p = part x in
    record { row = placed (Before u) (byte_at n s) ∷ p.row; spans = span_join (span_one n s m (Before u) e refl) p.spans; derives = Derives.a_before p.derives }
part {n} {s = s} {r = r} (a_group {m = m} {e = e} o x c) =
    let p = part x in
    let first = placed Open (byte_at n s) in
    let last = placed Close (byte_at n e) in
    record {
      row = first ∷ (p.row ++ last ∷ []);
      spans = span_join (span_one n s m Open o refl) (span_join p.spans (span_one n e r Close c refl));
      derives = Derives.a_group (byte_at n s) (byte_at n e) p.derives;
    }
part (up x) =
    let p = part x in
    record { row = p.row; spans = p.spans; derives = Derives.up p.derives }
part (to_left i g x l y) = part_left i g (part x) l (part y)
part (to_right i g x l y) = part_right i g (part x) l (part y)

-- the end of the text
pub span_end : (n f : ℕ) (s : List ℕ) → Ended s → length s < f → signs_from f n s ≡ the_end n
span_end n zero s e h = absurd (omega arith)
span_end n (suc f) s e h = ap (λ l. found l n s (signs_from f n)) e.1
