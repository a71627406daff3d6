use Rattle.readings.specs.Meaning.{Possible}
use Rattle.polynomials.specs.Held.{vectors}
use Rattle.monitor.proofs.Gathered.{Gathered}
use Rattle.monitor.proofs.opening.possible_sets.Given as goal

abbrev pub invariant-loop-a : goal.invariant-loop-a
invariant-loop-a g l = Gathered (Possible (g.R.Reading.meaning l.reading) l.names) l.a (vectors l.sets)
