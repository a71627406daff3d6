use Rattle.std.proofs.Common.{◌≡◌, ℕ, ◌^◌, ◌<◌, take}
use Rattle.readings.specs.Meaning.{is_on, in_doubt, worth}
use Rattle.readings.specs.declared.mark.Mark.{Mark}
use Rattle.readings.proofs.set.sets_of.Given as goal

abbrev pub invariant-loop-entry : goal.invariant-loop-entry
invariant-loop-entry g l = record {
  power : l.worth ≡ 2 ^ l.entry-index;
  few_on : l.on < l.worth;
  few_doubt : l.doubt < l.worth;
  so_far : (k : ℕ → Mark) → ((n : ℕ) (m : Mark) → n < 256 → goal.F-post g l.mark n m → m ≡ k n) → (l.on ≡ worth (λ n. is_on (k n)) 0 (take l.entry-index l.counted)) × (l.doubt ≡ worth (λ n. in_doubt (k n)) 0 (take l.entry-index l.counted));
}
