use Rattle.std.proofs.Common.{◌≡◌, ◌+◌, true, false, length, Some, None, sym, ap, ◌∙◌, subst, arith}
use Rattle.std.proofs.lemmas.Bool.{cond-true, cond-false}
use Rattle.rules.specs.First.{answer, first}
use Rattle.rules.specs.declared.fault.Fault.TheVariants.{Unsupported}
use Rattle.rules.proofs.First.{first_start, first_more, first_some}
use Rattle.claims.specs.Claims.{claim_at, supported, unsupported_at, unsupported}
use Rattle.claims.specs.Posed.{posed}
use Rattle.claims.proofs.Taken.{supported_taken}
use Rattle.claims.proofs.case.Case.check_support.Goals as goal

pub loop-i-init : goal.loop-i-init
loop-i-init g c = first_start (unsupported_at (posed g.R.Reading.meaning c.args.self.now) c.args.claims.now)

pub returns-then-not-supports : goal.returns-then-not-supports
unfolding unsupported
returns-then-not-supports g c =
    let k = posed g.R.Reading.meaning c.args.self.now in
    let cs = c.args.claims.now in
    let i = c.loop-i.i in
    let no : supported k cs i (claim_at cs i) ≡ false = sym (supported_taken cs i (omega arith) k (claim_at cs i)) ∙ sym c.supports.ensures ∙ c.if-not-supports.true in
    let at : unsupported_at k cs i ≡ Some (Unsupported (i + 1)) = cond-false (supported k cs i (claim_at cs i)) _ _ no in
    sym (ap (λ f. answer f tt) (first_some (unsupported_at k cs) (length cs) i (Unsupported (i + 1)) c.loop-i-test.true c.loop-i.invariant at))

pub loop-i-preserved : goal.loop-i-preserved
loop-i-preserved g c =
    let k = posed g.R.Reading.meaning c.args.self.now in
    let cs = c.args.claims.now in
    let i = c.loop-i.i in
    let yes : supported k cs i (claim_at cs i) ≡ true = sym (supported_taken cs i (omega arith) k (claim_at cs i)) ∙ sym c.supports.ensures ∙ c.if-not-supports.false in
    first_more (unsupported_at k cs) i c.loop-i.invariant (cond-true (supported k cs i (claim_at cs i)) _ _ yes)

pub returns : goal.returns
unfolding unsupported
returns g c =
    let k = posed g.R.Reading.meaning c.args.self.now in
    let cs = c.args.claims.now in
    let all : c.loop-i.i ≡ length cs = omega arith in
    sym (ap (λ f. answer f tt) (subst (λ n. first n (unsupported_at k cs) ≡ None) all c.loop-i.invariant))
