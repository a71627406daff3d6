-- A claim among others rests on those before it alone. Assumes nothing.
use Rattle.std.proofs.Common.{◌≡◌, ℕ, ◌-◌, ◌≤◌, Bool, true, false, ◌&&◌, ◌||◌, leb, ltb, eqb, List, length, take, refl, ap, ◌∙◌, ap₂, arith}
use Rattle.std.proofs.lemmas.List.{length-take-le, get_or-take}
use Rattle.std.proofs.lemmas.Bool.{and_parts, leb-true, ltb-true}
use Rattle.rules.specs.Rules.{node_count}
use Rattle.verdicts.specs.Case.{Case}
use Rattle.claims.specs.Ways.{ways_at}
use Rattle.claims.specs.Claims.{claim_at, says, cites, rests, meets, placed, supported}
use Rattle.claims.specs.declared.claim.Claim.{Claim}
use Rattle.claims.specs.declared.grounds.Fact.{Fact}
use Rattle.claims.specs.declared.grounds.Grounds.{Grounds}
use Rattle.claims.specs.declared.grounds.Grounds.TheVariants.{Nothing, One, Both}
use Rattle.claims.specs.declared.grounds.Ways.{Ways}
use Rattle.claims.specs.declared.grounds.Ways.TheVariants.{Never, By, Either}

module _ (cs : List Claim) (i : ℕ) (fits : i ≤ length cs) where
  abbrev before : List Claim
  before = take i cs

  cites_taken : (k : ℕ) (x : Fact) → cites before (length before) k x ≡ cites cs i k x
  cites_taken k x =
      let here : (b : Bool) → (ltb 0 k && leb k i) ≡ b → (b && says (claim_at before (k - 1)) x) ≡ (b && says (claim_at cs (k - 1)) x) =
      λ b. elim b as (λ v. (ltb 0 k && leb k i) ≡ v → (v && says (claim_at before (k - 1)) x) ≡ (v && says (claim_at cs (k - 1)) x)) [
        | true ↦ λ e.
            let p = and_parts (ltb 0 k) (leb k i) e in
            ap (λ c. says c x) (get_or-take i cs (k - 1) _ (omega (arith, ltb-true 0 k p.0, leb-true k i p.1)))
        | false ↦ λ e. refl
      ] in
      ap (λ n. ltb 0 k && leb k n && says (claim_at before (k - 1)) x) (length-take-le i cs fits) ∙ here (ltb 0 k && leb k i) refl

  rests_taken : (c : Claim) (g : Grounds) → rests before (length before) c g ≡ rests cs i c g
  rests_taken c Nothing = refl
  rests_taken c (One x) = ap (λ b. b && eqb c.second 0) (cites_taken c.first x)
  rests_taken c (Both x y) = ap₂ ◌&&◌ (cites_taken c.first x) (cites_taken c.second y)

  meets_taken : (c : Claim) (w : Ways) → meets before (length before) c w ≡ meets cs i c w
  meets_taken c Never = refl
  meets_taken c (By g) = rests_taken c g
  meets_taken c (Either g f) = ap₂ ◌||◌ (rests_taken c g) (rests_taken c f)

  pub supported_taken : (k : Case) (c : Claim) → supported k before (length before) c ≡ supported k cs i c
  supported_taken k c = ap (λ b. placed (length k.trace) (node_count k.rule) c && b) (meets_taken c (ways_at k (c.place - 1) (c.node - 1) c.sign))
