use Rattle.std.proofs.Common.{take}
use Rattle.readings.specs.Binding.{numbers_of}
use Rattle.verdicts.specs.Valuation.{laid, Laid}
use Rattle.verdicts.proofs.valuation.lay.Given as goal

abbrev pub invariant-loop-i : goal.invariant-loop-i
invariant-loop-i g l =
    Laid (laid g.S.Scale.ops g.S.Scale.doubtful (g.R.Reading.meaning l.bound.reading) (numbers_of l.bound) (take l.i l.trace)) l.initial.out l.out
