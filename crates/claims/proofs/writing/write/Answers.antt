use Rattle.std.proofs.Common.{◌≡◌, ◌-◌, ◌/◌, ◌%◌, ◌<◌, ◌≤◌, length, take, Some, None, Ok, Err, sym, refl, ap, ◌∙◌, subst, arith}
use Rattle.std.proofs.lemmas.Result.{err_from_is_err_and}
use Rattle.rules.specs.First.{answer}
use Rattle.rules.specs.Rules.{node_count}
use Rattle.rules.specs.declared.fault.Fault.TheVariants.{ManyEvents, ShortBuffer}
use Rattle.verdicts.specs.Case.{Case, case_of}
use Rattle.claims.specs.Claims.{wrong}
use Rattle.claims.specs.Posed.{posed}
use Rattle.claims.specs.Written.{claim_count, claim_next, unwritten, Written}
use Rattle.claims.proofs.Accepted.{answer_none, answer_some, few_events, many_to_write, short_room, by_event}
use Rattle.claims.proofs.Complete.{going_more, going_all}
use Rattle.claims.proofs.writing.write.Goals as goal

pub returns-in_err-case : goal.returns-in_err-case
returns-in_err-case g c =
    let k = case_of g.R.Reading.meaning c.args.bound.now c.args.trace.now in
    let room = length c.args.out.now in
    let p = err_from_is_err_and c.from_residual.result c.from_residual.ensures.1 in
    let many = c.in_err-case.ensures.answers in
    let no : unwritten k room ≡ Some ManyEvents = many_to_write k room many.1 in
    record { answers = p.1 ∙ ap Err (p.2 ∙ many.0) ∙ sym (ap (λ f. answer f (claim_count k)) no); leaves = rw no refl }

pub returns-then-out-total : goal.returns-then-out-total
returns-then-out-total g c =
    let k = case_of g.R.Reading.meaning c.args.bound.now c.args.trace.now in
    let room = length c.args.out.now in
    let s = c.in_ok-case.case in
    let e : posed g.R.Reading.meaning s ≡ k = c.in_ok-case.ensures.answers in
    let few : length k.trace ≤ 4095 = subst (λ (j : Case). length j.trace ≤ 4095) e s.few in
    let count : c.claim_count-total.result ≡ claim_count k = c.claim_count-total.ensures ∙ ap claim_count e in
    let no : unwritten k room ≡ Some (ShortBuffer (claim_count k)) = short_room k room few (subst (λ t. room < t) count c.if-out-total.true) in
    record { answers = ap (λ t. Err (ShortBuffer t)) count ∙ sym (ap (λ f. answer f (claim_count k)) no); leaves = rw no refl }

pub returns-in_err-check_events : goal.returns-in_err-check_events
returns-in_err-check_events g c =
    let k = case_of g.R.Reading.meaning c.args.bound.now c.args.trace.now in
    let room = length c.args.out.now in
    let s = c.in_ok-case.case in
    let e : posed g.R.Reading.meaning s ≡ k = c.in_ok-case.ensures.answers in
    let few : length k.trace ≤ 4095 = subst (λ (j : Case). length j.trace ≤ 4095) e s.few in
    let fits : claim_count k ≤ room = subst (λ t. t ≤ room) (c.claim_count-total.ensures ∙ ap claim_count e) c.if-out-total.false in
    let y = c.in_err-check_events.field-0.0 in
    let p = err_from_is_err_and c.from_residual-in_err-check_events.result c.from_residual-in_err-check_events.ensures.1 in
    let is : wrong k ≡ Some y = ap wrong (sym e) ∙ answer_some (wrong (posed g.R.Reading.meaning s)) (tt {0}) y (sym c.check_events.ensures ∙ c.in_err-check_events.was) in
    let no : unwritten k room ≡ Some y = by_event k room few fits ∙ is in
    record { answers = p.1 ∙ ap Err p.2 ∙ sym (ap (λ f. answer f (claim_count k)) no); leaves = rw no refl }

pub loop-i-preserved : goal.loop-i-preserved
loop-i-preserved g c =
    let k = case_of g.R.Reading.meaning c.args.bound.now c.args.trace.now in
    let i = c.loop-i.i in
    let done = take i c.loop-i.out in
    let e : posed g.R.Reading.meaning c.in_ok-case.case ≡ k = c.in_ok-case.ensures.answers in
    let low : i < claim_count k = subst (λ t. i < t) (c.claim_count-total.ensures ∙ ap claim_count e) c.loop-i-test.true in
    let is : c.next_claim.result ≡ claim_next k done (length k.trace - length done / node_count k.rule) (length done % node_count k.rule) =
    subst (λ (j : Case). c.next_claim.result ≡ claim_next j done (length j.trace - length done / node_count j.rule) (length done % node_count j.rule)) e c.next_claim.ensures in
    going_more k c.new.ensures.bound i c.args.out.now c.loop-i.out c.next_claim.result low (omega arith) is c.loop-i.invariant

pub returns : goal.returns
returns g c =
    let k = case_of g.R.Reading.meaning c.args.bound.now c.args.trace.now in
    let old = c.args.out.now in
    let new = c.loop-i.out in
    let s = c.in_ok-case.case in
    let e : posed g.R.Reading.meaning s ≡ k = c.in_ok-case.ensures.answers in
    let few : length k.trace ≤ 4095 = subst (λ (j : Case). length j.trace ≤ 4095) e s.few in
    let count : c.claim_count-total.result ≡ claim_count k = c.claim_count-total.ensures ∙ ap claim_count e in
    let fits : claim_count k ≤ length old = subst (λ t. t ≤ length old) count c.if-out-total.false in
    let up : claim_count k ≤ c.loop-i.i = subst (λ t. t ≤ c.loop-i.i) count c.loop-i-test.false in
    let fine : wrong k ≡ None = ap wrong (sym e) ∙ (answer_none (wrong (posed g.R.Reading.meaning s)) (tt {0}) c.in_ok-check_events.field-0 (sym c.check_events.ensures ∙ c.in_ok-check_events.was)).0 in
    let none : unwritten k (length old) ≡ None = by_event k (length old) few fits ∙ fine in
    let done : Written k old new = going_all k c.new.ensures.bound c.loop-i.i old new (few_events k few ∙ fine) up (omega arith) c.loop-i.invariant in
    record { answers = ap Ok count ∙ sym (ap (λ f. answer f (claim_count k)) none); leaves = rw none done }
