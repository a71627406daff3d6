-- What the check of claims accepts, on a trace without doubt. Assumes nothing.
use Rattle.std.proofs.Common.{◌≡◌, ℕ, zero, suc, ◌<◌, ◌≤◌, false, eqb, ltb, ◌↔◌, List, [], ◌∷◌, length, get_or, None, Ok, ◌∙◌, arith}
use Rattle.std.proofs.lemmas.Bool.{cond-true, lt-ltb, eq-eqb}
use Rattle.readings.specs.Meaning.{doubt_set}
use Rattle.verdicts.specs.Case.{Subject, on, verdict}
use Rattle.verdicts.specs.Valuation.{wrong_event}
use Rattle.verdicts.specs.declared.scale.YesNo.{YesNo}
use Rattle.claims.specs.Claims.{checked, unheard}
use Rattle.claims.specs.declared.claim.Claim.{Claim}
use Rattle.claims.proofs.Accepted.{none_all, few_events, accepted_parts, accepted_all}
use Rattle.claims.proofs.Complete.{exact}
use Rattle.claims.proofs.Right.{Bound}
use Rattle.monitor.specs.Monitored.{Undoubted, Each}
use Rattle.agreement.specs.Agreement.{Shows}

each_at : (P : ℕ → Type 0) (cs : List ℕ) → Each P cs → (i : ℕ) → i < length cs → P (get_or cs i 0)
each_at P [] all i h = absurd (omega arith)
each_at P (c ∷ cs) all zero h = all.0
each_at P (c ∷ cs) all (suc i) h = each_at P cs all.1 i (omega arith)

module _ (b : Subject) (cs : List ℕ) (few : length cs ≤ 4095) (all : Each (Undoubted b) cs) where
  right : (i : ℕ) → i < length cs → wrong_event b.meaning false b.numbers cs i ≡ None
  right i h =
      let ok = each_at (Undoubted b) cs all i h in
      let c = get_or cs i 0 in
      cond-true (ltb c b.meaning.codes) _ _ (lt-ltb c b.meaning.codes ok.0)
      ∙ cond-true (eqb (doubt_set b.meaning c b.numbers) 0) _ _ (eq-eqb (doubt_set b.meaning c b.numbers) 0 ok.1)

  heard : unheard (on b cs) ≡ None
  heard = few_events (on b cs) few ∙ none_all (wrong_event b.meaning false b.numbers cs) (length cs) right

  pub accepted : Bound (on b cs) → (v : YesNo) → ((claims : List Claim) × (checked (on b cs) claims ≡ Ok v)) ↔ (verdict (on b cs) ≡ v)
  accepted ok v = let e = exact (on b cs) ok v in (e.0, e.1 heard)

  pub checks : (claims : List Claim) (v : YesNo) → (checked (on b cs) claims ≡ Ok v) ↔ Shows (on b cs) claims v
  checks claims v = (
    λ e. let a = accepted_parts (on b cs) claims v e in record { each = a.each; root = a.ends; sign = a.tells },
    λ s. accepted_all (on b cs) claims v (record { heard = heard; ends = s.root; each = s.each; tells = s.sign }),
  )
