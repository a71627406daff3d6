use Rattle.std.proofs.Common.{refl}
use Rattle.polynomials.specs.Held.{vectors}
use Rattle.progression.specs.Progress.{moves_of}
use Rattle.monitor.proofs.Judged.{tells}
use Rattle.monitor.proofs.setup.Setup.standing.Goals as goal

pub returns : goal.returns
returns c =
    let s = c.args.self.now in
    record {
      count = refl;
      residual = refl;
      tells = λ m cs decided stands counted.
          tells m s decided c.args.now.residual cs stands c.to_values-table.result c.to_values-table.ensures c.has-kept.result c.for_good-settled.result c.has-kept.ensures
          (c.for_good-settled.ensures (moves_of s.plan.rule (vectors s.possible)) s.exact) _ c.from.ensures c.from-2.ensures counted refl;
    }
