use Rattle.std.proofs.Common.{refl}
use Rattle.monitor.specs.Serves.{watches}
use Rattle.monitor.proofs.Calls.{mark_serves}
use Rattle.monitor.proofs.monitor.Monitor.mark.Goals as goal

pub returns : goal.returns
returns g c =
    let old = c.args.self.now in
    let h = c.in_ok-push.ensures in
    record { reading = refl; serves = mark_serves (watches g.R.Reading.meaning old) old.inner _ c.standing.result refl refl h.0 h.1 h.2 h.3 c.standing.ensures }
