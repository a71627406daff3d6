-- What an accepted list of claims is, part by part. Assumes nothing.
use Rattle.std.proofs.Common.{◌≡◌, ℕ, zero, suc, ◌+◌, ◌-◌, ◌<◌, ◌≤◌, Bool, true, false, cond, ◌&&◌, eqb, ltb, leb, List, length, Some, None, Ok, Err, Option, refl, ap, ◌∙◌, ap₂, ⊎_elim, arith}
use Rattle.std.proofs.lemmas.Bool.{and_parts, and_from, cases_eq, cond-true, cond-false, le-ltb, eq-eqb, eqb-true, le-leb, leb-true, lt-ltb, ltb-true}
use Rattle.rules.specs.First.{answer, first, or_else}
use Rattle.rules.specs.Rules.{node_count}
use Rattle.rules.specs.declared.fault.Fault.{Fault}
use Rattle.rules.specs.declared.fault.Fault.TheVariants.{ManyEvents, ShortBuffer, BadEnd, Unsupported}
use Rattle.verdicts.specs.Case.{Case}
use Rattle.verdicts.specs.declared.scale.YesNo.{YesNo}
use Rattle.claims.specs.Ways.{verdict_of}
use Rattle.claims.specs.Claims.{claim_at, same_sign, says, cites, placed, supported, last_of, rooted, unheard, wrong, bad_end, unsupported_at, unsupported, refusal, checked}
use Rattle.claims.specs.Written.{claim_count, unwritten}
use Rattle.claims.specs.declared.claim.Claim.{Claim}
use Rattle.claims.specs.declared.claim.Sign.{Sign}
use Rattle.claims.specs.declared.claim.Sign.TheVariants.{Holds, Fails}
use Rattle.claims.specs.declared.grounds.Fact.{Fact}

or_none : {A : Type 0} (a b : Option A) → or_else a b ≡ None → (a ≡ None) × (b ≡ None)
or_none None b e = (refl, e)
or_none (Some x) b e = cc

-- none of a row is there just where none of its places is
none_each : {A : Type 0} (f : ℕ → Option A) (n : ℕ) → first n f ≡ None → (i : ℕ) → i < n → f i ≡ None
unfolding first
none_each f zero e i h = absurd (omega arith)
none_each f (suc n) e i h =
    let p = or_none (first n f) (f n) e in
    ⊎_elim (λ (same : i ≡ n). ap f same ∙ p.1) (λ (ne : i ≡ n → ⊥). none_each f n p.0 i (omega arith)) (cases_eq i n)

pub none_all : {A : Type 0} (f : ℕ → Option A) (n : ℕ) → ((i : ℕ) → i < n → f i ≡ None) → first n f ≡ None
unfolding first
none_all f zero e = refl
none_all f (suc n) e = ap₂ or_else (none_all f n (λ i h. e i (omega arith))) (e n (omega arith))

-- an answer that is there had no refusal
pub answer_none : {V : Type 0} (f : Option Fault) (v w : V) → answer f v ≡ Ok w → (f ≡ None) × (v ≡ w)
answer_none None v w e = (refl, cc)
answer_none (Some x) v w e = cc

pub answer_some : {V : Type 0} (f : Option Fault) (v : V) (y : Fault) → answer f v ≡ Err y → f ≡ Some y
answer_some None v y e = cc
answer_some (Some x) v y e = cc

passed : {A : Type 0} (b : Bool) (x : A) → cond b None (Some x) ≡ None → b ≡ true
passed true x e = refl
passed false x e = cc

-- the parts of a list that is accepted with a verdict
pub record Accepted (k : Case) (cs : List Claim) (v : YesNo) : Type 0 where
  pub heard : unheard k ≡ None
  pub ends : rooted (node_count k.rule) cs ≡ true
  pub each : (i : ℕ) → i < length cs → supported k cs i (claim_at cs i) ≡ true
  pub tells : verdict_of (last_of cs).sign ≡ v

pub accepted_parts : (k : Case) (cs : List Claim) (v : YesNo) → checked k cs ≡ Ok v → Accepted k cs v
unfolding refusal unsupported
accepted_parts k cs v e =
    let a = answer_none (refusal k cs) (verdict_of (last_of cs).sign) v e in
    let b = or_none (unheard k) (or_else (bad_end (node_count k.rule) cs) (unsupported k cs)) a.0 in
    let c = or_none (bad_end (node_count k.rule) cs) (unsupported k cs) b.1 in
    record {
      heard = b.0;
      ends = passed (rooted (node_count k.rule) cs) (BadEnd (length cs)) c.0;
      each = λ i h. passed (supported k cs i (claim_at cs i)) (Unsupported (i + 1)) (none_each (unsupported_at k cs) (length cs) c.1 i h);
      tells = a.1;
    }

pub accepted_all : (k : Case) (cs : List Claim) (v : YesNo) → Accepted k cs v → checked k cs ≡ Ok v
unfolding refusal unsupported
accepted_all k cs v a =
    let end : bad_end (node_count k.rule) cs ≡ None = cond-true (rooted (node_count k.rule) cs) None (Some (BadEnd (length cs))) a.ends in
    let every : unsupported k cs ≡ None = none_all (unsupported_at k cs) (length cs) (λ i h. cond-true (supported k cs i (claim_at cs i)) None (Some (Unsupported (i + 1))) (a.each i h)) in
    let none : refusal k cs ≡ None = ap₂ or_else a.heard (ap₂ or_else end every) in
    ap (λ f. answer f (verdict_of (last_of cs).sign)) none ∙ ap Ok a.tells

pub few_events : (k : Case) → length k.trace ≤ 4095 → unheard k ≡ wrong k
unfolding unheard
few_events k h = cond-false (ltb 4095 (length k.trace)) _ _ (le-ltb 4095 (length k.trace) h)

-- no event is wrong, by a call that answers so
pub heard_by : (k : Case) (v : Unit {0}) → length k.trace ≤ 4095 → answer (wrong k) (tt {0}) ≡ Ok v → unheard k ≡ None
heard_by k v few e = few_events k few ∙ (answer_none (wrong k) (tt {0}) v e).0

-- why a list is refused, reason by reason
module _ (k : Case) (cs : List Claim) where
  pub many_events : 4095 < length k.trace → refusal k cs ≡ Some ManyEvents
  unfolding refusal unheard
  many_events h = ap (λ f. or_else f (or_else (bad_end (node_count k.rule) cs) (unsupported k cs))) (cond-true (ltb 4095 (length k.trace)) _ _ (lt-ltb 4095 (length k.trace) h))

  pub wrong_event_lem : (f : Fault) → unheard k ≡ Some f → refusal k cs ≡ Some f
  unfolding refusal
  wrong_event_lem f e = ap (λ a. or_else a (or_else (bad_end (node_count k.rule) cs) (unsupported k cs))) e

  pub bad_end_lem : (f : Fault) → unheard k ≡ None → bad_end (node_count k.rule) cs ≡ Some f → refusal k cs ≡ Some f
  unfolding refusal
  bad_end_lem f heard e = ap₂ (λ a b. or_else a (or_else b (unsupported k cs))) heard e

  pub by_claims : unheard k ≡ None → bad_end (node_count k.rule) cs ≡ None → refusal k cs ≡ unsupported k cs
  unfolding refusal
  by_claims heard e = ap₂ (λ a b. or_else a (or_else b (unsupported k cs))) heard e

  -- what a check answers that has this refusal, or none
  pub checked_err : (f : Fault) → refusal k cs ≡ Some f → checked k cs ≡ Err f
  checked_err f e = ap (λ a. answer a (verdict_of (last_of cs).sign)) e

  pub checked_ok : refusal k cs ≡ None → checked k cs ≡ Ok (verdict_of (last_of cs).sign)
  checked_ok e = ap (λ a. answer a (verdict_of (last_of cs).sign)) e

-- why the writing is refused, with so much room
module _ (k : Case) (room : ℕ) where
  pub many_to_write : 4095 < length k.trace → unwritten k room ≡ Some ManyEvents
  unfolding unwritten
  many_to_write h = cond-true (ltb 4095 (length k.trace)) _ _ (lt-ltb 4095 (length k.trace) h)

  pub short_room : length k.trace ≤ 4095 → room < claim_count k → unwritten k room ≡ Some (ShortBuffer (claim_count k))
  unfolding unwritten
  short_room few h = cond-false (ltb 4095 (length k.trace)) _ _ (le-ltb 4095 (length k.trace) few) ∙ cond-true (ltb room (claim_count k)) _ _ (lt-ltb room (claim_count k) h)

  pub by_event : length k.trace ≤ 4095 → claim_count k ≤ room → unwritten k room ≡ wrong k
  unfolding unwritten
  by_event few h = cond-false (ltb 4095 (length k.trace)) _ _ (le-ltb 4095 (length k.trace) few) ∙ cond-false (ltb room (claim_count k)) _ _ (le-ltb room (claim_count k) h)

same_sign_lem : (s r : Sign) → same_sign s r ≡ true → s ≡ r
same_sign_lem Holds Holds h = refl
same_sign_lem Holds Fails h = cc
same_sign_lem Fails Holds h = cc
same_sign_lem Fails Fails h = refl

sign_self : (s : Sign) → same_sign s s ≡ true
sign_self Holds = refl
sign_self Fails = refl

-- what a claim that is cited says
pub record Cited (cs : List Claim) (i k : ℕ) (x : Fact) : Type 0 where
  pub from : 0 < k
  pub to : k ≤ i
  pub place : (claim_at cs (k - 1)).place ≡ x.place + 1
  pub node : (claim_at cs (k - 1)).node ≡ x.node + 1
  pub sign : (claim_at cs (k - 1)).sign ≡ x.sign

pub cited_parts : (cs : List Claim) (i k : ℕ) (x : Fact) → cites cs i k x ≡ true → Cited cs i k x
cited_parts cs i k x h =
    let c = claim_at cs (k - 1) in
    let a = and_parts (ltb 0 k && leb k i) (says c x) h in
    let b = and_parts (ltb 0 k) (leb k i) a.0 in
    let d = and_parts (eqb c.place (x.place + 1) && eqb c.node (x.node + 1)) (same_sign c.sign x.sign) a.1 in
    let e = and_parts (eqb c.place (x.place + 1)) (eqb c.node (x.node + 1)) d.0 in
    record {
      from = ltb-true 0 k b.0;
      to = leb-true k i b.1;
      place = eqb-true c.place (x.place + 1) e.0;
      node = eqb-true c.node (x.node + 1) e.1;
      sign = same_sign_lem c.sign x.sign d.1;
    }

pub cited_all : (cs : List Claim) (i k : ℕ) (x : Fact) → Cited cs i k x → cites cs i k x ≡ true
cited_all cs i k x h =
    let c = claim_at cs (k - 1) in
    let place : eqb c.place (x.place + 1) ≡ true = eq-eqb c.place (x.place + 1) h.place in
    let node : eqb c.node (x.node + 1) ≡ true = eq-eqb c.node (x.node + 1) h.node in
    let sign : same_sign c.sign x.sign ≡ true = ap (λ s. same_sign s x.sign) h.sign ∙ sign_self x.sign in
    and_from (ltb 0 k && leb k i) (says c x)
    (and_from (ltb 0 k) (leb k i) (lt-ltb 0 k h.from) (le-leb k i h.to))
    (and_from (eqb c.place (x.place + 1) && eqb c.node (x.node + 1)) (same_sign c.sign x.sign) (and_from (eqb c.place (x.place + 1)) (eqb c.node (x.node + 1)) place node) sign)

-- where a claim that is supported stands, and what it meets
pub record Standing (n m : ℕ) (c : Claim) : Type 0 where
  pub from : 0 < c.place
  pub to : c.place ≤ n + 1
  pub first : 0 < c.node
  pub last : c.node ≤ m

pub placed_parts : (n m : ℕ) (c : Claim) → placed n m c ≡ true → Standing n m c
placed_parts n m c h =
    let a = and_parts (ltb 0 c.place && leb c.place (n + 1) && ltb 0 c.node) (leb c.node m) h in
    let b = and_parts (ltb 0 c.place && leb c.place (n + 1)) (ltb 0 c.node) a.0 in
    let d = and_parts (ltb 0 c.place) (leb c.place (n + 1)) b.0 in
    record {
      from = ltb-true 0 c.place d.0;
      to = leb-true c.place (n + 1) d.1;
      first = ltb-true 0 c.node b.1;
      last = leb-true c.node m a.1;
    }

pub placed_all : (n m : ℕ) (c : Claim) → Standing n m c → placed n m c ≡ true
placed_all n m c h =
    let a = and_from (ltb 0 c.place) (leb c.place (n + 1)) (lt-ltb 0 c.place h.from) (le-leb c.place (n + 1) h.to) in
    let b = and_from (ltb 0 c.place && leb c.place (n + 1)) (ltb 0 c.node) a (lt-ltb 0 c.node h.first) in
    and_from (ltb 0 c.place && leb c.place (n + 1) && ltb 0 c.node) (leb c.node m) b (le-leb c.node m h.last)
