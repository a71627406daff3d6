use Rattle.std.proofs.Common.{[], get_or, ◌∙◌, arith}
use Rattle.polynomials.specs.Held.{vectors_of}
use Rattle.polynomials.specs.Polynomial.{step, value}
use Rattle.polynomials.proofs.Digits.{set_cong}
use Rattle.progression.specs.Progress.{change}
use Rattle.progression.proofs.transitions.TransitionsMachine.step.Goals as goal

pub returns : goal.returns
unfolding step
returns c =
    let m = c.args.self.now in
    c.step.ensures
    ∙ set_cong 8 (λ i. vectors_of (get_or m.tables c.args.a []) i c.args.v) (λ i. value (change m.plan.rule c.args.a i) c.args.v)
    (λ i h. m.changed (record { letters = c.args.a; index = i; vector = c.args.v; letters_fit = omega arith; index_fits = h; vector_fits = omega arith }))
