use Rattle.std.proofs.Common.{◌≡◌, ◌+◌, ◌*◌, ◌%◌, ◌^◌, ◌<◌, cond, take, get_or, refl, sym, ap, ◌∙◌, arith, one-mul, mod-eq_of_lt, pow-add}
use Rattle.std.proofs.lemmas.List.{get_or-take, length-take}
use Rattle.std.proofs.lemmas.Nat.{pow_below}
use Rattle.readings.specs.Meaning.{worth}
use Rattle.readings.proofs.Worths.{cond_most, worth_next}
use Rattle.readings.proofs.set.set_of.Goals as goal
use Rattle.readings.proofs.set.set_of.Goals.{then-passes, else-passes}

pub loop-i-init : goal.loop-i-init
unfolding worth
loop-i-init g c = record { small = omega arith; so_far = λ p agree. refl }

pub loop-i-preserved : goal.loop-i-preserved
loop-i-preserved g c =
    let xs = take c.min.result c.args.entries.now in
    let i = c.loop-i.i in
    let low : i < 8 = omega (arith, c.loop-i-test.true, length-take c.min.result c.args.entries.now, c.min.ensures) in
    let bit : 1 * 2 ^ i % 256 ≡ 2 ^ i = ap (λ v. v % 256) (one-mul (2 ^ i)) ∙ mod-eq_of_lt (pow_below i 8 low) in
    let grown : c.if-passes.set ≡ c.loop-i.set + cond c.passes.result (2 ^ i) 0 = elim c.if-passes.branch [
      | then-passes w ↦ w.set-is ∙ ap (λ v. c.loop-i.set + v) (bit ∙ sym (ap (λ t. cond t (2 ^ i) 0) w.if-passes.true))
      | else-passes w ↦ omega (arith, w.set-is, ap (λ t. cond t (2 ^ i) 0) w.if-passes.false)
    ] in
    let here = get_or-take c.min.result c.args.entries.now i 0 (omega (arith, c.loop-i-test.true, length-take c.min.result c.args.entries.now)) in
    let byte : get_or xs i 0 < 256 = omega (arith, here, c.type_inv.entries i) in
    record {
      small = omega (arith, grown, cond_most c.passes.result (2 ^ i), pow-add 2 i 1, c.loop-i.invariant.small);
      so_far = λ p agree. grown ∙ ap (λ t. c.loop-i.set + cond t (2 ^ i) 0) (agree (get_or xs i 0) c.passes.result byte c.passes.ensures) ∙ worth_next p xs i (2 ^ i) c.loop-i.set c.loop-i-test.true refl (c.loop-i.invariant.so_far p agree);
    }
