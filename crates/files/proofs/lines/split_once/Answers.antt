use Rattle.std.proofs.Common.{◌≡◌, ◌≢◌, ◌≤◌, length, None, MatchOption, sym, subst, arith, rules, tests}
use Rattle.std.proofs.lemmas.Iterator.{IsFirst-from_position, YieldsList-from_slice}
use Rattle.files.specs.Lines.{Parted, before}
use Rattle.files.proofs.Parting.{IsFirst, counted, parted}
use Rattle.files.proofs.lines.split_once.Goals as goal

pub returns-in_err-at : goal.returns-in_err-at
returns-in_err-at c =
    let stop = c.args.stop in
    let text = c.args.text.now in
    let first : IsFirst stop text c.position.result = IsFirst-from_position _ _ _ (λ b. b ≡ stop) (λ b. b ≢ stop) c.position.ensures.ran (YieldsList-from_slice text c.iter.ensures.rest) (λ x q k. search (rules, tests)) (λ x q k. search (rules, tests)) in
    let none = counted stop text None (subst (IsFirst stop text) c.in_err-at.was first) in
    subst (λ r. MatchOption r (length text ≤ before stop text) (λ p. Parted stop text p.0.now p.1.now)) (sym c.from_residual.ensures) (omega (arith, none))

pub returns : goal.returns
returns c =
    let stop = c.args.stop in
    let text = c.args.text.now in
    let first : IsFirst stop text c.position.result = IsFirst-from_position _ _ _ (λ b. b ≡ stop) (λ b. b ≢ stop) c.position.ensures.ran (YieldsList-from_slice text c.iter.ensures.rest) (λ x q k. search (rules, tests)) (λ x q k. search (rules, tests)) in
    parted stop text _ (subst (IsFirst stop text) c.in_ok-at.was first)
