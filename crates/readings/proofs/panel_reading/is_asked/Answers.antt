use Rattle.std.proofs.Common.{◌≡◌, ℕ, ◌<◌, min, Bool, true, false, ◌&&◌, eqb, length, get_or, take, Decides, ap₂, ◌∙◌, zero-add, arith, rules, tests}
use Rattle.std.specs.List.{enumerate_from}
use Rattle.std.proofs.lemmas.Bool.Decides.{Decides-and, Decides-eqb, same_from_decides}
use Rattle.std.proofs.lemmas.Iterator.{YieldsList-from_slice, cases_from_any}
use Rattle.std.proofs.lemmas.Iterator.Consumers.{YieldsList-from_enumerate}
use Rattle.std.proofs.lemmas.List.{get_or-take, length-take}
use Rattle.std.proofs.lemmas.List.FromFn.{length-enumerate_from, get_or-enumerate_from}
use Rattle.readings.specs.Panel.{has}
use Rattle.readings.proofs.Candidate.{asked_decides}
use Rattle.readings.proofs.Found.{some_place}
use Rattle.readings.proofs.panel_reading.is_asked.Goals as goal

pub returns : goal.returns
returns c =
    let ns = c.args.names.now in
    let counted = take c.min.result ns in
    let set = c.args.set in
    let name = c.args.name in
    let long : length counted ≡ min (length ns) 8 = omega (arith, length-take c.min.result ns, c.min.ensures) in
    let asks : ℕ × ℕ → Bool = λ p. eqb p.1 name && has set p.0 in
    let r = cases_from_any _ _ c.any.result (λ p. asks p ≡ true) (λ p. asks p ≡ false) c.any.ensures.ran (YieldsList-from_enumerate (YieldsList-from_slice counted (cc)) c.enumerate-places.ensures.count) (λ x q k. search (rules, tests)) (λ x q k. search (rules, tests)) in
    let at : (k : ℕ) → k < length counted → get_or (enumerate_from 0 counted) k (0, 0) ≡ (k, get_or ns k 0) = λ k low. get_or-enumerate_from 0 counted k (0, 0) low ∙ ap₂ (λ i n. (i, n)) (zero-add k) (get_or-take c.min.result ns k 0 (omega (arith, low, length-take c.min.result ns))) in
    let d = some_place c.any.result asks (enumerate_from 0 counted) (λ k. (k, get_or ns k 0)) (length counted) (0, 0) (length-enumerate_from 0 counted) at r in
    let asked_at : (k : ℕ) → Decides (asks (k, get_or ns k 0)) ((get_or ns k 0 ≡ name) × (has set k ≡ true)) = λ k. Decides-and _ _ (Decides-eqb (get_or ns k 0) name) (λ e. e, λ e. e) in
    let a = asked_decides ns set name (min (length ns) 8) in
    same_from_decides _ _ (λ e. let p = d.0 e in let s = (asked_at p.0).0 p.2 in (p.0, omega (arith, p.1, long), s), λ p. d.1 (p.0, omega (arith, p.1, long), (asked_at p.0).1 p.2)) a
