use Rattle.std.proofs.Common.{◌≡◌, length, take}
use Rattle.readings.specs.Binding.{numbers_for}
use Rattle.readings.proofs.binding.numbers_for.Given as goal

abbrev pub invariant-loop-i : goal.invariant-loop-i
invariant-loop-i g l = (length l.numbers ≡ 8) × (take l.i l.numbers ≡ numbers_for (g.R.Reading.meaning l.reading) (take l.i l.letters))
