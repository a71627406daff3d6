use Rattle.std.proofs.Common.{◌≡◌, ℕ, List, length, get_or, take, drop, Result, sym, refl, ap, ◌∙◌, subst, ap₂, arith}
use Rattle.std.proofs.lemmas.List.{take_all}
use Rattle.rules.specs.declared.fault.Fault.{Fault}
use Rattle.verdicts.specs.Case.{Subject, subject_of, on}
use Rattle.claims.proofs.Right.{Bound, evaluated}
use Rattle.monitor.specs.History.{History, opened, played}
use Rattle.monitor.specs.Monitored.{subject}
use Rattle.monitor.specs.Serves.{Stands, Serves, watches}
use Rattle.monitor.specs.Standings.{Tells}
use Rattle.monitor.specs.declared.call.Call.{Call}
use Rattle.monitor.specs.declared.standing.Standing.{Standing}
use Rattle.monitor.proofs.Judged.{numbers_long}
use Rattle.agreement.specs.Agreement.{Agreement}
use Rattle.agreement.proofs.Claimed.{accepted, checks}
use Rattle.agreement.proofs.Replayed.{stands_more, told_past, told_next, past_more, past_set}
use Rattle.agreement.proofs.replaying.replay.Goals as goal
use Rattle.agreement.proofs.replaying.replay.Goals.{then-i-answers, else-i-answers}

pub loop-i-init : goal.loop-i-init
unfolding played
loop-i-init g c = (refl, refl, (λ h st. st), (λ h st k call d below within. absurd (omega arith)), refl)

pub loop-i-preserved : goal.loop-i-preserved
loop-i-preserved g c =
    let inv = c.loop-i.invariant in
    let i = c.loop-i.i in
    let calls : List Call = c.args.calls.now in
    let meaning = g.R.Reading.meaning in
    let old = c.loop-i.monitor in
    let opened-at = c.open-monitor.result in
    let b : Subject = watches meaning opened-at in
    let same : watches meaning old ≡ b = ap₂ (λ r s. subject (meaning r) s) inv.0 inv.1 in
    let call : Call = get_or calls i (Call.Event 0) in
    let serves : Serves b call old.inner c.serve-answer.new.monitor.inner c.serve-answer.result = subst (λ (x : Subject). Serves x call old.inner c.serve-answer.new.monitor.inner c.serve-answer.result) same c.serve-answer.ensures.serves in (
      c.serve-answer.ensures.reading ∙ inv.0,
      serves.setup ∙ inv.1,
      (λ h st. stands_more b h calls i (Call.Event 0) old.inner c.serve-answer.new.monitor.inner c.serve-answer.result c.loop-i-test.true serves (inv.2 h st)),
      (λ h st. elim c.if-i-answers.branch [
        | then-i-answers w ↦ told_next b h calls i c.loop-i.answers c.if-i-answers.answers c.serve-answer.result (Call.Event 0) old.inner c.serve-answer.new.monitor.inner w.answers-is w.if-i-answers.true c.loop-i-test.true c.if-i-answers.auto.answers serves (inv.2 h st) (inv.3 h st)
        | else-i-answers w ↦ told_past b h calls i c.loop-i.answers c.if-i-answers.answers w.answers-is w.if-i-answers.false (inv.3 h st)
      ]),
      elim c.if-i-answers.branch [
        | then-i-answers w ↦ past_set i c.loop-i.answers c.if-i-answers.answers c.args.answers.now c.serve-answer.result w.answers-is inv.4
        | else-i-answers w ↦ ap (drop _) w.answers-is ∙ past_more i c.loop-i.answers c.args.answers.now inv.4
      ],
    )

pub returns : goal.returns
returns g c =
    let inv = c.loop-i.invariant in
    let i = c.loop-i.i in
    let calls : List Call = c.args.calls.now in
    let old : List (Result Standing Fault) = c.args.answers.now in
    let answers : List (Result Standing Fault) = c.loop-i.answers in
    let meaning = g.R.Reading.meaning in
    let first = c.open-monitor.result in
    let last = c.loop-i.monitor in
    let b : Subject = watches meaning first in
    let is : b ≡ subject_of meaning c.args.bound = c.open-monitor.ensures.subject in
    let fresh : Stands b opened first.inner = subst (λ (x : Subject). Stands x opened first.inner) (sym is) c.open-monitor.ensures.stands in
    let same : watches meaning last ≡ b = ap₂ (λ r s. subject (meaning r) s) inv.0 inv.1 in
    let closed : (h : History) → Stands b h last.inner → Tells b h.codes c.close.result = subst (λ (x : Subject). (h : History) → Stands x h last.inner → Tells x h.codes c.close.result) same c.close.ensures in
    let all : i ≡ length calls = omega arith in
    let ok : (cs : List ℕ) → Bound (on b cs) = λ cs. record { numbered = numbers_long (meaning first.reading) first.inner.setup; noded = first.inner.setup.plan.sized } in
    let agreed : Agreement b calls old answers c.close.result = record {
      stands = subst (λ (ks : List Call). Tells b (played b opened ks).codes c.close.result) (take_all i calls (omega arith)) (closed (played b opened (take i calls)) (inv.2 opened fresh));
      each = λ k call d low within. inv.3 opened fresh k call d (omega arith) within;
      long = c.loop-i.auto.answers;
      past = subst (λ (n : ℕ). drop n answers ≡ drop n old) all inv.4;
      evaluated = λ cs. evaluated (on b cs) (ok cs);
      accepted = λ cs few free. accepted b cs few free (ok cs);
      checks = λ cs few free. checks b cs few free;
    } in
    subst (λ (x : Subject). Agreement x calls old answers c.close.result) is agreed
