use Rattle.std.proofs.Common.{◌≡◌, take, drop}
use Rattle.verdicts.specs.Case.{Subject}
use Rattle.monitor.specs.History.{History, played}
use Rattle.monitor.specs.Serves.{Stands, watches}
use Rattle.agreement.proofs.Replayed.{Told}
use Rattle.agreement.proofs.replaying.replay.Given as goal

-- the calls so far were served, for every history that the monitor stood for when the loop began
abbrev pub invariant-loop-i : goal.invariant-loop-i
invariant-loop-i g l =
    let b : Subject = watches g.R.Reading.meaning l.initial.monitor in
    (l.monitor.reading ≡ l.initial.monitor.reading)
    × (l.monitor.inner.setup ≡ l.initial.monitor.inner.setup)
    × ((h : History) → Stands b h l.initial.monitor.inner → Stands b (played b h (take l.i l.calls)) l.monitor.inner)
    × ((h : History) → Stands b h l.initial.monitor.inner → Told b h l.calls l.i l.answers)
    × (drop l.i l.answers ≡ drop l.i l.initial.answers)
