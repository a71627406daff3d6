-- The steps of the scan, sign by sign. Assumes nothing.
use Rattle.std.proofs.Common.{◌≡◌, ℕ, ◌+◌, ◌-◌, ◌<◌, ◌≤◌, Bool, cond, ltb, List, Result, MatchResult, sym, refl, ap, ◌∙◌, subst, arith}
use Rattle.std.specs.Result.{IsErrAnd}
use Rattle.std.proofs.lemmas.Result.{err_from_is_err_and}
use mathlib.Core.Path.{subst₃}
use Rattle.std.proofs.lemmas.Bool.{cond-true, cond-false, lt-ltb, le-ltb}
use Rattle.rules.specs.Signs.{sign, bad, lex, stop_at}
use Rattle.rules.specs.Names.{place, added}
use Rattle.rules.specs.Rest.{Out, turn, step, go, halt, Reach, here, onward, Halts}
use Rattle.rules.specs.Scan.{State, want, have}
use Rattle.rules.specs.declared.name.Name.{Name}
use Rattle.rules.specs.declared.node.Unary.{Unary}
use Rattle.rules.specs.declared.node.Binary.{Binary}
use Rattle.rules.specs.declared.sign.Sign.{Sign}
use Rattle.rules.specs.declared.sign.Sign.TheVariants.{Before, Between, Truth, Open, Close, End}
use Rattle.rules.specs.declared.sign.Why.TheVariants.{Misplaced, DeepNesting, ManyNodes, ManyLetters}
use Rattle.rules.specs.declared.sign.Stop.{Stop}

pub trans : {s m r : List ℕ} {σ τ ρ : State} → Reach s σ m τ → Reach m τ r ρ → Reach s σ r ρ
trans here q = q
trans (onward e p) q = onward e (trans p q)

pub later : {s m : List ℕ} {σ τ : State} {f : Stop} → Reach s σ m τ → Halts m τ f → Halts s σ f
later p h = record { at = h.at; in_state = h.in_state; leads = trans p h.leads; stops = h.stops }

pub at_once : {s : List ℕ} {σ : State} {f : Stop} → step s σ ≡ halt f → Halts s σ f
at_once {s} {σ} e = record { at = s; in_state = σ; leads = here; stops = e }

pub at_bad : {s : List ℕ} {f : Stop} (σ : State) → lex s ≡ bad f → Halts s σ f
at_bad {s} σ e = at_once (ap (λ x. turn x s σ) e)

-- what stops a callee stops its caller
pub stopped_at : {A : Type 0} (P : A → Type 0) {s : List ℕ} {σ : State} {f : Stop} (r : Result A Stop) → IsErrAnd r (λ g. g ≡ f) → Halts s σ f → MatchResult r P (λ g. Halts s σ g)
stopped_at P r h x =
    let p = err_from_is_err_and r h in
    rw (p.1, p.2) x

-- a sign that makes a node, where there is no room for one
pub full : {s r : List ℕ} {n : ℕ} {m : Sign} {σ : State} (on : Out) {f : Stop} → lex s ≡ sign m r → turn (sign m r) s σ ≡ cond (ltb n 64) on (halt (stop_at ManyNodes s)) → (64 ≤ n) × (f ≡ stop_at ManyNodes s) → Halts s σ f
full {s} {n = n} {σ = σ} on e is h = at_once (ap (λ x. turn x s σ) e ∙ is ∙ cond-false (ltb n 64) _ _ (le-ltb n 64 h.0) ∙ ap halt (sym h.1))

-- a reach in the numbers that a proof has
pub renumber : {s r : List ℕ} {d n n' k k' : ℕ} {l m m' : List Name} → n ≡ n' → k ≡ k' → m ≡ m' → Reach s (want d n l) r (have d k m) → Reach s (want d n' l) r (have d k' m')
renumber {s} {r} {d} {l = l} p q e h = subst₃ (λ x y z. Reach s (want d x l) r (have d y z)) p q e h

module _ (s r : List ℕ) (d n : ℕ) (l : List Name) where
  pub step_name : {w : Name} → lex s ≡ sign (Sign.Name w) r → n < 64 → place l w < 8 → step s (want d n l) ≡ go r (have d (n + 1) (added l w))
  step_name {w} e h k =
      ap (λ x. turn x s (want d n l)) e ∙ cond-true (ltb n 64) _ _ (lt-ltb n 64 h) ∙ cond-true (ltb (place l w) 8) _ _ (lt-ltb (place l w) 8 k)

  pub step_truth : {v : Bool} → lex s ≡ sign (Truth v) r → n < 64 → step s (want d n l) ≡ go r (have d (n + 1) l)
  step_truth e h = ap (λ x. turn x s (want d n l)) e ∙ cond-true (ltb n 64) _ _ (lt-ltb n 64 h)

  pub step_before : {u : Unary} → lex s ≡ sign (Before u) r → n < 64 → step s (want d n l) ≡ go r (want d (n + 1) l)
  step_before e h = ap (λ x. turn x s (want d n l)) e ∙ cond-true (ltb n 64) _ _ (lt-ltb n 64 h)

  pub step_open : lex s ≡ sign Open r → d < 16 → step s (want d n l) ≡ go r (want (d + 1) n l)
  step_open e h = ap (λ x. turn x s (want d n l)) e ∙ cond-true (ltb d 16) _ _ (lt-ltb d 16 h)

  pub step_between : {b : Binary} → lex s ≡ sign (Between b) r → n < 64 → step s (have d n l) ≡ go r (want d (n + 1) l)
  step_between e h = ap (λ x. turn x s (have d n l)) e ∙ cond-true (ltb n 64) _ _ (lt-ltb n 64 h)

  pub step_close : lex s ≡ sign Close r → step s (have (d + 1) n l) ≡ go r (have d n l)
  step_close e =
      let back : d + 1 - 1 ≡ d = omega arith in
      ap (λ x. turn x s (have (d + 1) n l)) e ∙ cond-true (ltb 0 (d + 1)) _ _ (lt-ltb 0 (d + 1) (omega arith)) ∙ ap (λ x. go r (have x n l)) back

  -- the faults of the other limits
  pub many_names : {w : Name} {f : Stop} → lex s ≡ sign (Sign.Name w) r → n < 64 → (8 ≤ place l w) × (f ≡ stop_at ManyLetters s) → Halts s (want d n l) f
  many_names {w} e h k =
      at_once (ap (λ x. turn x s (want d n l)) e ∙ cond-true (ltb n 64) _ _ (lt-ltb n 64 h) ∙ cond-false (ltb (place l w) 8) _ _ (le-ltb (place l w) 8 k.0) ∙ ap halt (sym k.1))

  pub too_deep : {f : Stop} → lex s ≡ sign Open r → 16 ≤ d → f ≡ stop_at DeepNesting s → Halts s (want d n l) f
  too_deep e h i = at_once (ap (λ x. turn x s (want d n l)) e ∙ cond-false (ltb d 16) _ _ (le-ltb d 16 h) ∙ ap halt (sym i))

  no_operand_turn : (m : Sign) → ((u : Unary) → m ≡ Before u → ⊥) → ((v : Bool) → m ≡ Truth v → ⊥) → ((k : Name) → m ≡ Sign.Name k → ⊥) → (m ≡ Open → ⊥) → turn (sign m r) s (want d n l) ≡ halt (stop_at Misplaced s)
  no_operand_turn (Before u) a b c e = absurd (a u refl)
  no_operand_turn (Between o) a b c e = refl
  no_operand_turn (Truth v) a b c e = absurd (b v refl)
  no_operand_turn (Sign.Name k) a b c e = absurd (c k refl)
  no_operand_turn Open a b c e = absurd (e refl)
  no_operand_turn Close a b c e = refl
  no_operand_turn End a b c e = refl

  pub no_operand : {m : Sign} {f : Stop} → lex s ≡ sign m r → f ≡ stop_at Misplaced s → ((u : Unary) → m ≡ Before u → ⊥) → ((v : Bool) → m ≡ Truth v → ⊥) → ((k : Name) → m ≡ Sign.Name k → ⊥) → (m ≡ Open → ⊥) → Halts s (want d n l) f
  no_operand {m} g i a b c e = at_once (ap (λ x. turn x s (want d n l)) g ∙ no_operand_turn m a b c e ∙ ap halt (sym i))

  -- a fault behind a step
  pub behind_before : {u : Unary} {f : Stop} (p : ℕ) → lex s ≡ sign (Before u) r → n + p < 64 → Halts r (want d (n + (p + 1)) l) f → Halts s (want d (n + p) l) f
  behind_before {u} {f} p e h x =
      let same : n + (p + 1) ≡ n + p + 1 = omega arith in
      later (onward (ap (λ x. turn x s (want d (n + p) l)) e ∙ cond-true (ltb (n + p) 64) _ _ (lt-ltb (n + p) 64 h)) here) (subst (λ k. Halts r (want d k l) f) same x)

  pub behind_open : {f : Stop} → lex s ≡ sign Open r → d < 16 → Halts r (want (d + 1) n l) f → Halts s (want d n l) f
  behind_open e h x = later (onward (step_open e h) here) x
