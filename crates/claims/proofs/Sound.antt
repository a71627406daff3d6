-- Every claim of an accepted list is true. Assumes nothing.
use Rattle.std.proofs.Common.{◌≡◌, ℕ, zero, suc, ◌-◌, ◌<◌, true, ◌&&◌, eqb, ltb, List, length, Ok, sym, refl, ap, ◌∙◌, ap₂, ⊎_elim, not-suc-le-zero, arith}
use Rattle.std.proofs.lemmas.Bool.{and_parts, and_from, eqb-true, ltb-true, or_cases, or_left, or_right}
use Rattle.rules.specs.Rules.{node_count}
use Rattle.verdicts.specs.Case.{Case, verdict}
use Rattle.verdicts.specs.declared.scale.YesNo.{YesNo}
use Rattle.verdicts.specs.declared.scale.YesNo.TheVariants.{Broken, Kept}
use Rattle.claims.specs.Ways.{ways_at, verdict_of, agree, is_true, stands, given}
use Rattle.claims.specs.Claims.{claim_at, cites, rests, meets, placed, supported, last_of, meant, checked, True, Sound}
use Rattle.claims.specs.declared.claim.Claim.{Claim}
use Rattle.claims.specs.declared.claim.Sign.{Sign}
use Rattle.claims.specs.declared.claim.Sign.TheVariants.{Holds, Fails}
use Rattle.claims.specs.declared.grounds.Fact.{Fact}
use Rattle.claims.specs.declared.grounds.Grounds.{Grounds}
use Rattle.claims.specs.declared.grounds.Grounds.TheVariants.{Nothing, One, Both}
use Rattle.claims.specs.declared.grounds.Ways.{Ways}
use Rattle.claims.specs.declared.grounds.Ways.TheVariants.{Never, By, Either}
use Rattle.claims.proofs.Accepted.{accepted_parts, cited_parts, placed_parts}
use Rattle.claims.proofs.Right.{Bound, right_at}

agree_own : (s : Sign) → agree s (verdict_of s) ≡ true
agree_own Holds = refl
agree_own Fails = refl

agree_verdict : (s : Sign) (v : YesNo) → agree s v ≡ true → v ≡ verdict_of s
agree_verdict Holds Kept h = refl
agree_verdict Holds Broken h = cc
agree_verdict Fails Kept h = cc
agree_verdict Fails Broken h = refl

module _ (k : Case) (ok : Bound k) (cs : List Claim) where
  -- the first i claims are true
  abbrev Before : ℕ → Type 0
  Before i = (b : ℕ) → b < i → True k (claim_at cs b)

  cited : (i n : ℕ) (x : Fact) → Before i → cites cs i n x ≡ true → is_true (meant k) x ≡ true
  cited i n x before h =
      let is = cited_parts cs i n x h in
      let c = claim_at cs (n - 1) in
      let place : c.place - 1 ≡ x.place = omega (arith, is.place) in
      let node : c.node - 1 ≡ x.node = omega (arith, is.node) in
      let holds : meant k (c.place - 1) (c.node - 1) ≡ verdict_of c.sign = before (n - 1) (omega (arith, is.from, is.to)) in
      let true_at : meant k x.place x.node ≡ verdict_of x.sign = sym (ap₂ (meant k) place node) ∙ holds ∙ ap verdict_of is.sign in
      ap (agree x.sign) true_at ∙ agree_own x.sign

  resting : (i : ℕ) (c : Claim) (g : Grounds) → Before i → rests cs i c g ≡ true → stands (meant k) g ≡ true
  resting i c Nothing before h = refl
  resting i c (One x) before h = cited i c.first x before (and_parts (cites cs i c.first x) (eqb c.second 0) h).0
  resting i c (Both x y) before h =
      let p = and_parts (cites cs i c.first x) (cites cs i c.second y) h in
      and_from (is_true (meant k) x) (is_true (meant k) y) (cited i c.first x before p.0) (cited i c.second y before p.1)

  meeting : (i : ℕ) (c : Claim) (w : Ways) → Before i → meets cs i c w ≡ true → given (meant k) w ≡ true
  meeting i c Never before h = cc
  meeting i c (By g) before h = resting i c g before h
  meeting i c (Either g f) before h =
      ⊎_elim
      (λ p. or_left (stands (meant k) g) (stands (meant k) f) (resting i c g before p))
      (λ p. or_right (stands (meant k) g) (stands (meant k) f) (resting i c f before p))
      (or_cases (rests cs i c g) (rests cs i c f) h)

  supported_true : (i : ℕ) (c : Claim) → Before i → supported k cs i c ≡ true → True k c
  supported_true i c before h =
      let q = c.place - 1 in
      let j = c.node - 1 in
      let w = ways_at k q j c.sign in
      let p = and_parts (placed (length k.trace) (node_count k.rule) c) (meets cs i c w) h in
      let at = placed_parts (length k.trace) (node_count k.rule) c p.0 in
      let low : j < node_count k.rule = omega (arith, at.first, at.last) in
      agree_verdict c.sign (meant k q j) (sym (right_at k ok q j c.sign low) ∙ meeting i c w before p.1)

  all_true : ((i : ℕ) → i < length cs → supported k cs i (claim_at cs i) ≡ true) → (d i : ℕ) → i < d → i < length cs → True k (claim_at cs i)
  all_true each zero i p h = absurd (not-suc-le-zero p)
  all_true each (suc d) i p h = supported_true i (claim_at cs i) (λ b l. all_true each d b (omega arith) (omega arith)) (each i h)

  pub sound : Sound k cs
  sound v e i h = all_true (accepted_parts k cs v e).each (suc i) i (omega arith) h

  -- a list that is accepted says what the rule means
  pub accepted_means : (v : YesNo) → checked k cs ≡ Ok v → verdict k ≡ v
  accepted_means v e =
      let a = accepted_parts k cs v e in
      let c = last_of cs in
      let p = and_parts (ltb 0 (length cs) && eqb c.place 1) (eqb c.node (node_count k.rule)) a.ends in
      let r = and_parts (ltb 0 (length cs)) (eqb c.place 1) p.0 in
      let some : 0 < length cs = ltb-true 0 (length cs) r.0 in
      let place : c.place - 1 ≡ 0 = omega (arith, eqb-true c.place 1 r.1) in
      let node : c.node - 1 ≡ node_count k.rule - 1 = omega (arith, eqb-true c.node (node_count k.rule) p.1) in
      sym (ap₂ (meant k) place node) ∙ sound v e (length cs - 1) (omega arith) ∙ a.tells
