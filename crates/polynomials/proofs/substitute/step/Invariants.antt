use Rattle.std.proofs.Common.{◌≡◌}
use Rattle.polynomials.specs.Held.{vectors_of}
use Rattle.polynomials.specs.Sets.{set_below}
use Rattle.polynomials.proofs.substitute.step.Given as goal

abbrev pub invariant-loop-i : goal.invariant-loop-i
invariant-loop-i l = l.w ≡ set_below l.i (λ k. vectors_of l.tables k l.v)
