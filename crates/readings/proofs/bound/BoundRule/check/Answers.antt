use Rattle.std.proofs.Common.{◌≡◌, true, false, is_some, Ok, Err, sym, ap, ◌∙◌, arith, rules}
use Rattle.std.specs.Result.{is_ok}
use Rattle.rules.specs.First.{answer}
use Rattle.rules.specs.Rules.{letters_of}
use Rattle.rules.proofs.First.{first_start}
use Rattle.readings.specs.Binding.{unbound, found_by, letter_at}
use Rattle.readings.specs.Finding.{absence, absent_first, present_more, all_present}
use Rattle.readings.proofs.Found.{refusal}
use Rattle.readings.proofs.bound.BoundRule.check.Goals as goal

pub loop-letter-init : goal.loop-letter-init
loop-letter-init g c = first_start (absence (g.R.Reading.meaning c.args.reading.now) c.letters-letters.result.now)

pub returns-in_err-ok_or : goal.returns-in_err-ok_or
returns-in_err-ok_or g c =
    let m = g.R.Reading.meaning c.args.reading.now in
    let ls = c.letters-letters.result.now in
    let i = c.loop-letter.letter-index in
    let none : is_some (found_by m (letter_at ls i)) ≡ false = ap is_some (ap m.finds (sym c.text.ensures) ∙ sym c.find-found.ensures) ∙ sym c.ok_or.ensures.variant ∙ ap is_ok c.in_err-ok_or.was in
    let why = refusal c.find-found.result _ _ (sym c.ok_or.ensures.value ∙ c.in_err-ok_or.was) in
    let is : answer (unbound m (letters_of c.args.rule.now)) c.args.rule.now.table.count ≡ Err c.in_err-ok_or.field-0.0 = ap (λ o. answer o c.args.rule.now.table.count) (ap (unbound m) (sym c.letters-letters.ensures.same) ∙ absent_first m ls i c.loop-letter-test.true c.loop-letter.invariant none) ∙ ap Err why in
    search rules

pub loop-letter-preserved : goal.loop-letter-preserved
loop-letter-preserved g c =
    let m = g.R.Reading.meaning c.args.reading.now in
    let ls = c.letters-letters.result.now in
    let i = c.loop-letter.letter-index in
    let there : is_some (found_by m (letter_at ls i)) ≡ true = ap is_some (ap m.finds (sym c.text.ensures) ∙ sym c.find-found.ensures) ∙ sym c.ok_or.ensures.variant ∙ ap is_ok c.in_ok-ok_or.was in
    present_more m ls i c.loop-letter.invariant there

pub returns : goal.returns
returns g c =
    let m = g.R.Reading.meaning c.args.reading.now in
    let ls = c.letters-letters.result.now in
    let none : unbound m ls ≡ _ = all_present m ls c.loop-letter.letter-index (omega arith) c.loop-letter.invariant in
    ap Ok c.letters-letters.ensures.long ∙ sym (ap (λ o. answer o c.args.rule.now.table.count) (ap (unbound m) (sym c.letters-letters.ensures.same) ∙ none))
