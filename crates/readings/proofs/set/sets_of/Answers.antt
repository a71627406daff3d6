use Rattle.std.proofs.Common.{◌≡◌, ℕ, ◌+◌, ◌<◌, Bool, cond, take, get_or, refl, sym, ap, ◌∙◌, arith, pow-add}
use Rattle.std.proofs.lemmas.List.{get_or-take, length-take}
use Rattle.std.proofs.lemmas.Nat.{pow_below}
use Rattle.readings.specs.Meaning.{is_on, in_doubt, worth}
use Rattle.readings.specs.declared.mark.Mark.{Mark}
use Rattle.readings.proofs.Worths.{cond_most, worth_next}
use Rattle.readings.proofs.set.sets_of.Goals as goal
use Rattle.readings.proofs.set.sets_of.Goals.{in-Off, in-On, in-Doubt}

pub loop-entry-init : goal.loop-entry-init
unfolding worth
loop-entry-init g c = record { power = refl; few_on = omega arith; few_doubt = omega arith; so_far = λ k agree. (refl, refl) }

pub overflow_add-on : goal.overflow_add-on
overflow_add-on g c =
    let low : c.loop-entry.entry-index < 8 = omega (arith, c.loop-entry-test.true, length-take c.min.result c.args.entries.now, c.min.ensures) in
    omega (arith, pow_below c.loop-entry.entry-index 8 low, c.loop-entry.invariant.power, c.loop-entry.invariant.few_on)

pub overflow_add-doubt : goal.overflow_add-doubt
overflow_add-doubt g c =
    let low : c.loop-entry.entry-index < 8 = omega (arith, c.loop-entry-test.true, length-take c.min.result c.args.entries.now, c.min.ensures) in
    omega (arith, pow_below c.loop-entry.entry-index 8 low, c.loop-entry.invariant.power, c.loop-entry.invariant.few_doubt)

pub overflow_mul-worth : goal.overflow_mul-worth
overflow_mul-worth g c =
    let low : c.loop-entry.entry-index < 8 = omega (arith, c.loop-entry-test.true, length-take c.min.result c.args.entries.now, c.min.ensures) in
    omega (arith, pow_below c.loop-entry.entry-index 8 low, c.loop-entry.invariant.power)

pub loop-entry-preserved : goal.loop-entry-preserved
loop-entry-preserved g c =
    let xs = take c.min.result c.args.entries.now in
    let i = c.loop-entry.entry-index in
    let worth' = c.loop-entry.worth in
    let inv = c.loop-entry.invariant in
    let on : c.match-mark.on ≡ c.loop-entry.on + cond (is_on c.mark.result) worth' 0 = elim c.match-mark.branch [
      | in-Off w ↦ omega (arith, w.on-is, ap (λ k. cond (is_on k) worth' 0) w.in-Off.is)
      | in-On w ↦ w.on-is ∙ ap (λ v. c.loop-entry.on + v) (sym (ap (λ k. cond (is_on k) worth' 0) w.in-On.is))
      | in-Doubt w ↦ omega (arith, w.on-is, ap (λ k. cond (is_on k) worth' 0) w.in-Doubt.is)
    ] in
    let doubt : c.match-mark.doubt ≡ c.loop-entry.doubt + cond (in_doubt c.mark.result) worth' 0 = elim c.match-mark.branch [
      | in-Off w ↦ omega (arith, w.doubt-is, ap (λ k. cond (in_doubt k) worth' 0) w.in-Off.is)
      | in-On w ↦ omega (arith, w.doubt-is, ap (λ k. cond (in_doubt k) worth' 0) w.in-On.is)
      | in-Doubt w ↦ w.doubt-is ∙ ap (λ v. c.loop-entry.doubt + v) (sym (ap (λ k. cond (in_doubt k) worth' 0) w.in-Doubt.is))
    ] in
    let here = get_or-take c.min.result c.args.entries.now i 0 (omega (arith, c.loop-entry-test.true, length-take c.min.result c.args.entries.now)) in
    let byte : get_or xs i 0 < 256 = omega (arith, here, c.type_inv.entries i) in
    let next : (p : Mark → Bool) (l l' : ℕ) → l' ≡ l + cond (p c.mark.result) worth' 0 → (k : ℕ → Mark) → c.mark.result ≡ k (get_or xs i 0) → l ≡ worth (λ n. p (k n)) 0 (take i xs) → l' ≡ worth (λ n. p (k n)) 0 (take (i + 1) xs) = λ p l l' grown k is so_far. grown ∙ ap (λ m. l + cond (p m) worth' 0) is ∙ worth_next (λ n. p (k n)) xs i worth' l c.loop-entry-test.true inv.power so_far in
    record {
      power = omega (arith, inv.power, pow-add 2 i 1);
      few_on = omega (arith, on, cond_most (is_on c.mark.result) worth', inv.few_on);
      few_doubt = omega (arith, doubt, cond_most (in_doubt c.mark.result) worth', inv.few_doubt);
      so_far = λ k agree.
          let is = agree (get_or xs i 0) c.mark.result byte c.mark.ensures in
          let past = inv.so_far k agree in
          (next is_on c.loop-entry.on c.match-mark.on on k is past.0, next in_doubt c.loop-entry.doubt c.match-mark.doubt doubt k is past.1);
    }
