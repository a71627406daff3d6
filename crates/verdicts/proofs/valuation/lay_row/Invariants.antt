use Rattle.std.proofs.Common.{◌≡◌, take}
use Rattle.verdicts.specs.Valuation.{row_of}
use Rattle.verdicts.proofs.valuation.lay_row.Given as goal

abbrev pub invariant-loop-i : goal.invariant-loop-i
invariant-loop-i g l = take l.i l.row ≡ row_of g.S.Scale.ops g.S.Scale.doubtful (g.R.Reading.meaning l.bound.reading) (take l.i l.numbers) l.code
