use Rattle.std.proofs.Common.{◌≡◌, Some, None, Ok, Err, sym, ap, ◌∙◌}
use Rattle.std.proofs.lemmas.Result.{err_from_is_err_and}
use Rattle.rules.specs.Rules.{node_count}
use Rattle.claims.specs.Ways.{verdict_of}
use Rattle.claims.specs.Claims.{last_of, bad_end, wrong, unsupported}
use Rattle.claims.specs.Posed.{posed}
use Rattle.claims.proofs.Accepted.{answer_none, answer_some, few_events, heard_by, wrong_event_lem, bad_end_lem, by_claims, checked_err, checked_ok}
use Rattle.claims.proofs.case.Case.judge.Goals as goal

pub returns-in_err-check_events : goal.returns-in_err-check_events
returns-in_err-check_events g c =
    let k = posed g.R.Reading.meaning c.args.self.now in
    let cs = c.args.claims.now in
    let y = c.in_err-check_events.field-0.0 in
    let p = err_from_is_err_and c.from_residual.result c.from_residual.ensures.1 in
    let is : wrong k ≡ Some y = answer_some (wrong k) (tt {0}) y (sym c.check_events.ensures ∙ c.in_err-check_events.was) in
    p.1 ∙ ap Err p.2 ∙ sym (checked_err k cs y (wrong_event_lem k cs y (few_events k c.args.self.now.few ∙ is)))

pub returns-in_err-root : goal.returns-in_err-root
returns-in_err-root g c =
    let k = posed g.R.Reading.meaning c.args.self.now in
    let cs = c.args.claims.now in
    let y = c.in_err-root.field-0.0 in
    let p = err_from_is_err_and c.from_residual-in_err-root.result c.from_residual-in_err-root.ensures.1 in
    let heard = heard_by k c.in_ok-check_events.field-0 c.args.self.now.few (sym c.check_events.ensures ∙ c.in_ok-check_events.was) in
    let is : bad_end (node_count k.rule) cs ≡ Some y = answer_some (bad_end (node_count k.rule) cs) (last_of cs) y (sym c.root.ensures ∙ c.in_err-root.was) in
    p.1 ∙ ap Err p.2 ∙ sym (checked_err k cs y (bad_end_lem k cs y heard is))

pub returns-in_err-check_support : goal.returns-in_err-check_support
returns-in_err-check_support g c =
    let k = posed g.R.Reading.meaning c.args.self.now in
    let cs = c.args.claims.now in
    let y = c.in_err-check_support.field-0.0 in
    let p = err_from_is_err_and c.from_residual-in_err-check_support.result c.from_residual-in_err-check_support.ensures.1 in
    let heard = heard_by k c.in_ok-check_events.field-0 c.args.self.now.few (sym c.check_events.ensures ∙ c.in_ok-check_events.was) in
    let end = answer_none (bad_end (node_count k.rule) cs) (last_of cs) c.in_ok-root.root (sym c.root.ensures ∙ c.in_ok-root.was) in
    let is : unsupported k cs ≡ Some y = answer_some (unsupported k cs) (tt {0}) y (sym c.check_support.ensures ∙ c.in_err-check_support.was) in
    p.1 ∙ ap Err p.2 ∙ sym (checked_err k cs y (by_claims k cs heard end.0 ∙ is))

pub returns : goal.returns
returns g c =
    let k = posed g.R.Reading.meaning c.args.self.now in
    let cs = c.args.claims.now in
    let heard = heard_by k c.in_ok-check_events.field-0 c.args.self.now.few (sym c.check_events.ensures ∙ c.in_ok-check_events.was) in
    let end = answer_none (bad_end (node_count k.rule) cs) (last_of cs) c.in_ok-root.root (sym c.root.ensures ∙ c.in_ok-root.was) in
    let all : unsupported k cs ≡ None = (answer_none (unsupported k cs) (tt {0}) c.in_ok-check_support.field-0 (sym c.check_support.ensures ∙ c.in_ok-check_support.was)).0 in
    ap Ok (c.into.ensures ∙ ap (λ l. verdict_of l.sign) (sym end.1)) ∙ sym (checked_ok k cs (by_claims k cs heard end.0 ∙ all))
