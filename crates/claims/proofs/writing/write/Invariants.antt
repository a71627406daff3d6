use Rattle.verdicts.specs.Case.{case_of}
use Rattle.claims.proofs.Complete.{Going}
use Rattle.claims.proofs.writing.write.Given as goal

abbrev pub invariant-loop-i : goal.invariant-loop-i
invariant-loop-i g l = Going (case_of g.R.Reading.meaning l.bound l.trace) l.i l.initial.out l.out
