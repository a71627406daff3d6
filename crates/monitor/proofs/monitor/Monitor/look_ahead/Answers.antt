use Rattle.std.proofs.Common.{◌≡◌, ℕ, ◌+◌, refl, ap, ◌∙◌, subst}
use Rattle.std.proofs.lemmas.Result.{err_from_is_err_and}
use Rattle.readings.specs.Meaning.{on_set}
use Rattle.polynomials.specs.Polynomial.{substitute}
use Rattle.progression.specs.Progress.{change}
use Rattle.progression.specs.Tables.{StandsFor}
use Rattle.monitor.specs.Serves.{watches}
use Rattle.monitor.specs.declared.inner.Inner.{Inner}
use Rattle.monitor.specs.declared.monitor.Monitor.{Monitor}
use Rattle.monitor.proofs.Calls.{look_serves, look_refused}
use Rattle.monitor.proofs.Histories.{point_same, inner_same}
use Rattle.monitor.proofs.monitor.Monitor.look_ahead.Goals as goal

-- a monitor whose inner is as it was is as it was
monitor_same : {R : Type 0} (w : Monitor R) (i : Inner) → i ≡ w.inner → ◌≡◌ {A = Monitor R} record { reading = w.reading; inner = i } w
monitor_same {R} w i e = let F : Inner → Monitor R = λ j. record { reading = w.reading; inner = j } in ap F e

pub returns-in_err-admitted : goal.returns-in_err-admitted
returns-in_err-admitted g c =
    let old = c.args.self.now in
    let same = inner_same old.inner _ refl (point_same old.inner.now _ refl (c.drop-guard.ensures ∙ c.new-guard.ensures.saved)) refl in
    let p = err_from_is_err_and c.from_residual.result c.from_residual.ensures.1 in
    rw (p.1, p.2) record {
      same = monitor_same old _ same;
      serves = record { reading = refl; serves = look_refused (watches g.R.Reading.meaning old) old.inner _ _ c.args.code c.in_err-admitted.ensures same };
    }

pub returns : goal.returns
returns g c =
    let old = c.args.self.now in
    let m = g.R.Reading.meaning old.reading in
    let b = watches g.R.Reading.meaning old in
    let free = c.in_ok-admitted.ensures in
    let same = inner_same old.inner _ refl (point_same old.inner.now _ refl (c.drop-guard-2.ensures ∙ c.new-guard.ensures.saved)) refl in
    let shown : c.show-letters.result.0 ≡ on_set m c.args.code b.numbers = c.show-letters.ensures.on ∙ ap (on_set m c.args.code) c.letters.ensures in
    record {
      same = monitor_same old _ same;
      serves = record {
        reading = refl;
        serves = look_serves b old.inner _ c.new-guard.result.residual.now (old.inner.now.count + 1) c.standing.result c.args.code free.0 same
            (λ P st. subst (λ (a : ℕ). StandsFor c.new-guard.result.residual.now (substitute P (change old.inner.setup.plan.rule a))) shown (c.new-guard.ensures.stepped P st)) refl (c.standing.ensures m);
      };
    }
