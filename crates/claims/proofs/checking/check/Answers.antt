use Rattle.std.proofs.Common.{◌≡◌, Err, sym, ap, ◌∙◌, subst}
use Rattle.std.proofs.lemmas.Result.{err_from_is_err_and}
use Rattle.rules.specs.declared.fault.Fault.TheVariants.{ManyEvents}
use Rattle.verdicts.specs.Case.{case_of}
use Rattle.claims.specs.Bound.{Bound}
use Rattle.claims.specs.Claims.{checked}
use Rattle.claims.proofs.Accepted.{many_events, checked_err}
use Rattle.claims.proofs.Complete.{exact}
use Rattle.claims.proofs.Right.{evaluated}
use Rattle.claims.proofs.Sound.{sound}
use Rattle.claims.proofs.checking.check.Goals as goal

pub returns-in_err-new : goal.returns-in_err-new
returns-in_err-new g c =
    let k = case_of g.R.Reading.meaning c.args.bound.now c.args.trace.now in
    let cs = c.args.claims.now in
    let ok : Bound k = c.new.ensures.bound in
    let p = err_from_is_err_and c.from_residual.result c.from_residual.ensures.1 in
    let many = c.in_err-new.ensures.answers in
    record {
      answers = p.1 ∙ ap Err (p.2 ∙ many.0) ∙ sym (checked_err k cs ManyEvents (many_events k cs many.1));
      sound = sound k ok cs;
      exact = exact k ok;
      evaluated = evaluated k ok;
    }

pub returns : goal.returns
returns g c =
    let k = case_of g.R.Reading.meaning c.args.bound.now c.args.trace.now in
    let cs = c.args.claims.now in
    let ok : Bound k = c.new.ensures.bound in
    record {
      answers = subst (λ j. c.judge.result ≡ checked j cs) c.in_ok-new.ensures.answers c.judge.ensures;
      sound = sound k ok cs;
      exact = exact k ok;
      evaluated = evaluated k ok;
    }
