use Rattle.std.proofs.Common.{◌≡◌, ℕ, ◌<◌, List, ap, ◌∙◌, arith, length-set}
use Rattle.rules.specs.Rules.{node_count}
use Rattle.rules.specs.Tree.{node_at}
use Rattle.rules.specs.declared.node.Node.{Node}
use Rattle.polynomials.specs.Held.{vectors, no_bits}
use Rattle.polynomials.specs.Polynomial.{value}
use Rattle.polynomials.proofs.Stored.{store_more}
use Rattle.progression.specs.Obligations.{node_of}
use Rattle.progression.specs.Progress.{poly_at}
use Rattle.progression.proofs.Tabled.{node_more}
use Rattle.progression.proofs.plan.Plan.node_tables.Goals as goal

pub loop-j-preserved : goal.loop-j-preserved
loop-j-preserved c =
    let p = c.args.self.now in
    let a = c.args.letters in
    let j = c.loop-j.j in
    let x = c.node_table.result in
    let low : j < node_count p.rule = omega (arith, c.nodes-nodes.ensures.long) in
    let node : Node = node_at c.nodes-nodes.result.now j in
    let same : node ≡ node_of p.rule j = ap (λ (ns : List Node). node_at ns j) c.nodes-nodes.ensures.same in (
      length-set c.loop-j.tables j x ∙ c.loop-j.invariant.0,
      store_more (λ k y. (v : ℕ) → v < 256 → vectors y v ≡ value (poly_at p.rule a k) v) c.loop-j.tables j x (record { bits = no_bits })
          (omega (arith, p.rule.few, c.loop-j.invariant.0)) c.loop-j.invariant.1
          (node_more p a c.loop-j.tables j low c.loop-j.invariant.1 node same x c.node_table.ensures),
    )
