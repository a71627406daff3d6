use Rattle.std.proofs.Common.{◌≡◌, None}
use Rattle.rules.specs.First.{first}
use Rattle.verdicts.specs.Valuation.{wrong_event}
use Rattle.verdicts.proofs.events.check_events.Given as goal

abbrev pub invariant-loop-i : goal.invariant-loop-i
invariant-loop-i g l = first l.i (wrong_event (g.R.Reading.meaning l.reading) g.S.Scale.TAKES_DOUBT l.numbers l.trace) ≡ None
