use Rattle.std.proofs.Common.{ℕ, refl, subst}
use Rattle.polynomials.specs.Polynomial.{substitute}
use Rattle.progression.specs.Progress.{change}
use Rattle.progression.specs.Tables.{StandsFor}
use Rattle.monitor.specs.Serves.{watches}
use Rattle.monitor.proofs.Calls.{event_serves}
use Rattle.monitor.proofs.monitor.Monitor.event.Goals as goal

pub returns : goal.returns
returns g c =
    let old = c.args.self.now in
    let h = c.in_ok-letters.ensures in
    record {
      reading = refl;
      serves = event_serves (watches g.R.Reading.meaning old) old.inner _ c.standing.result c.args.code h.0 refl refl
          (λ P st. subst (λ (a : ℕ). StandsFor c.after.result (substitute P (change old.inner.setup.plan.rule a))) h.1 (c.after.ensures P st)) refl c.standing.ensures;
    }
