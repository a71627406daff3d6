use Rattle.std.proofs.Common.{◌≡◌, None}
use Rattle.rules.specs.First.{first}
use Rattle.readings.specs.Finding.{absence}
use Rattle.readings.proofs.bound.BoundRule.check.Given as goal

abbrev pub invariant-loop-letter : goal.invariant-loop-letter
invariant-loop-letter g l = first l.letter-index (absence (g.R.Reading.meaning l.reading) l.letters) ≡ None
