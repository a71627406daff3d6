use Rattle.std.proofs.Common.{◌∙◌}
use Rattle.polynomials.specs.Held.{terms}
use Rattle.progression.specs.Progress.{change}
use Rattle.progression.proofs.Substituted.{substitute_same}
use Rattle.progression.proofs.plan.Plan.after.Goals as goal

pub returns : goal.returns
returns c P is s l =
    let Q = change c.args.self.now.rule c.args.letters in
    c.substitute_values.ensures Q (λ i v h k. c.changes.ensures i h v k) s l
    ∙ substitute_same (terms c.args.left) P Q is s
