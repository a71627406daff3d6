use Rattle.std.proofs.Common.{◌≡◌, ℕ, ◌<◌, rules}
use Rattle.polynomials.specs.Held.{vectors, no_bits}
use Rattle.polynomials.specs.Polynomial.{value}
use Rattle.progression.specs.Progress.{change}
use Rattle.progression.proofs.Made.{made}
use Rattle.progression.proofs.plan.Plan.changes.Goals as goal

pub returns : goal.returns
returns c i h =
    made _ _ c.from_fn.result 8 (λ k x. (v : ℕ) → v < 256 → vectors x v ≡ value (change c.args.self.now.rule c.args.letters k) v)
    (λ k x q l e. search rules) c.from_fn.ensures.items i (record { bits = no_bits }) h
