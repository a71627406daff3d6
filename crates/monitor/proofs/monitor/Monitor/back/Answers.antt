use Rattle.std.proofs.Common.{refl}
use Rattle.monitor.specs.Serves.{watches}
use Rattle.monitor.proofs.Calls.{back_serves}
use Rattle.monitor.proofs.monitor.Monitor.back.Goals as goal

pub returns : goal.returns
returns g c =
    let old = c.args.self.now in
    let h = c.in_ok-self.ensures in
    record { reading = refl; serves = back_serves (watches g.R.Reading.meaning old) old.inner _ c.standing.result refl h.0 h.1 h.2 h.3 c.standing.ensures }
