use Rattle.std.proofs.Common.{◌≡◌, ℕ, ◌<◌, Bool, List, length, sym, refl, ap, ◌∙◌, arith}
use Rattle.rules.specs.Rules.{node_count}
use Rattle.rules.specs.declared.node.Node.{Node}
use Rattle.progression.proofs.Counts.{count_none}
use Rattle.progression.proofs.Listed.{chosen, count_le, listing_not, listing_yes, all_listed}
use Rattle.progression.proofs.plan.Plan.new.Goals as goal
use Rattle.progression.proofs.plan.Plan.new.Goals.{then-is_obligation, else-is_obligation}

abbrev test : List Node → ℕ → Bool
test ns = chosen ns (length ns)

pub loop-j-init : goal.loop-j-init
loop-j-init c = (count_none (test c.nodes-nodes.result.now), refl, refl, (λ k h. absurd (omega arith)), (λ i e h. absurd (omega arith)))

few : (c : goal.In-loop-j) → c.loop-j.count < 64
few c =
    let ns : List Node = c.nodes-nodes.result.now in
    omega (arith, c.loop-j.invariant.0, count_le (test ns) c.loop-j.j, c.nodes-nodes.ensures.long, c.args.rule.few)

pub overflow_cast-numbers : goal.overflow_cast-numbers
overflow_cast-numbers c = omega (arith, few c)

pub overflow_add-numbers : goal.overflow_add-numbers
overflow_add-numbers c = omega (arith, few c)

pub overflow_add-count : goal.overflow_add-count
overflow_add-count c =
    let ns : List Node = c.nodes-nodes.result.now in
    omega (arith, c.loop-j.invariant.0, count_le (test ns) c.loop-j.j, c.nodes-nodes.ensures.long, c.args.rule.few)

pub loop-j-preserved : goal.loop-j-preserved
loop-j-preserved c =
    let f : ℕ → Bool = test c.nodes-nodes.result.now in
    let low : c.loop-j.j < 64 = omega (arith, c.nodes-nodes.ensures.long, c.args.rule.few) in
    elim c.if-is_obligation.branch [
      | then-is_obligation w ↦ listing_yes f c.loop-j.j c.loop-j.count c.loop-j.numbers c.loop-j.places low c.loop-j.invariant c.if-is_obligation.count c.if-is_obligation.places (sym w.if-is_obligation.ensures) w.count-is (w.places-is ∙ w.put.ensures)
      | else-is_obligation w ↦ listing_not f c.loop-j.j c.loop-j.count c.loop-j.numbers c.loop-j.places low c.loop-j.invariant c.if-is_obligation.count c.if-is_obligation.places (sym w.if-is_obligation.ensures) w.count-is w.places-is
    ]

pub invariant_of-result : goal.invariant_of-result
invariant_of-result c =
    let r = c.args.rule in
    let ns : List Node = c.nodes-nodes.result.now in
    let long : length ns ≡ node_count r = c.nodes-nodes.ensures.long in
    let all : c.loop-j.j ≡ node_count r = omega (arith, long) in
    let is = all_listed r ns c.nodes-nodes.ensures.same long c.loop-j.j c.loop-j.count c.loop-j.numbers c.loop-j.places all c.loop-j.invariant in
    record { counted = is.0; numbered = is.1; placed = is.2; sized = ap length (sym c.nodes-nodes.ensures.same) ∙ long }
