use Rattle.std.proofs.Common.{subst₂}
use Rattle.polynomials.specs.Held.{vectors}
use Rattle.polynomials.specs.declared.vectors.VectorSet.{VectorSet}
use Rattle.reachable.specs.Reach.{Exact}
use Rattle.reachable.proofs.Exact.{exact_of}
use Rattle.progression.specs.Progress.{moves_of}
use Rattle.progression.specs.declared.plan.Plan.{Plan}
use Rattle.monitor.proofs.setup.Setup.new.Goals as goal

pub invariant_of-result : goal.invariant_of-result
invariant_of-result c =
    let t = c.new-transitions.result in
    let found = vectors c.reachable-reachable.result in
    let at : Exact (moves_of t.plan.rule (vectors t.possible)) found =
    exact_of (moves_of t.plan.rule (vectors t.possible)) found c.reachable-reachable.ensures in
    record {
      started = c.at_end-start.ensures;
      exact = subst₂ (λ (p : Plan) (v : VectorSet). Exact (moves_of p.rule (vectors v)) found) c.new-transitions.ensures.0 c.new-transitions.ensures.1 at;
      named = c.requires;
    }
