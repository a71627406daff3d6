use Rattle.std.proofs.Common.{◌≡◌, ℕ, ◌^◌, ◌<◌, Bool, take}
use Rattle.readings.specs.Meaning.{worth}
use Rattle.readings.proofs.set.set_of.Given as goal

abbrev pub invariant-loop-i : goal.invariant-loop-i
invariant-loop-i g l = record {
  small : l.set < 2 ^ l.i;
  so_far : (p : ℕ → Bool) → ((n : ℕ) (b : Bool) → n < 256 → goal.F-post g l.passes n b → b ≡ p n) → l.set ≡ worth p 0 (take l.i l.counted);
}
