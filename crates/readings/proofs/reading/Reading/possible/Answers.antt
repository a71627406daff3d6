use Rattle.std.proofs.Common.{◌≡◌, ℕ, ◌-◌, Bool, true, false, ◌&&◌, eqb, Decides, refl, ◌∙◌, zero-add, arith, rules, tests}
use Rattle.std.specs.List.{range_with_len}
use Rattle.std.proofs.lemmas.Bool.Decides.{Decides-and, Decides-eqb}
use Rattle.std.proofs.lemmas.Iterator.{YieldsList-from_range, cases_from_any}
use Rattle.std.proofs.lemmas.List.FromFn.{length-range_with_len, get_or-range_with_len}
use Rattle.readings.specs.Meaning.{on_set, doubt_set}
use Rattle.readings.proofs.Found.{some_place}
use Rattle.readings.proofs.reading.Reading.possible.Goals as goal

pub returns : goal.returns
returns g c =
    let m = g.Self.Reading.meaning c.args.self.now in
    let ns = c.args.names.now in
    let n = c.codes.result in
    let all : n - 0 ≡ n = omega arith in
    let shows : ℕ → Bool = λ k. eqb (on_set m k ns) c.args.set && eqb (doubt_set m k ns) 0 in
    let r = cases_from_any _ _ c.any.result (λ k. shows k ≡ true) (λ k. shows k ≡ false) c.any.ensures.ran (YieldsList-from_range 0 n n refl all) (λ x q k. search (rules, tests)) (λ x q k. search (rules, tests)) in
    let d = some_place c.any.result shows (range_with_len 0 n) (λ k. k) n 0 (length-range_with_len 0 n) (λ k low. get_or-range_with_len 0 n k 0 low ∙ zero-add k) r in
    let shown : (k : ℕ) → Decides (shows k) ((on_set m k ns ≡ c.args.set) × (doubt_set m k ns ≡ 0)) = λ k. Decides-and _ _ (Decides-eqb (on_set m k ns) c.args.set) (Decides-eqb (doubt_set m k ns) 0) in
    (λ e. let p = d.0 e in let s = (shown p.0).0 p.2 in (p.0, omega (arith, p.1, c.codes.ensures), s.0, s.1), λ p. d.1 (p.0, omega (arith, p.1, c.codes.ensures), (shown p.0).1 (p.2, p.3)))
