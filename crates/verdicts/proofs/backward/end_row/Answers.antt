use Rattle.std.proofs.Common.{◌≡◌, ◌<◌, [], length, sym, ap, ◌∙◌, arith}
use Rattle.rules.specs.Rules.{node_count, nodes_of}
use Rattle.rules.specs.Tree.{node_at}
use Rattle.verdicts.specs.Step.{step_end, at}
use Rattle.verdicts.proofs.Lift.{end_value}
use Rattle.verdicts.proofs.Rules.{nodes_ordered}
use Rattle.verdicts.proofs.Steps.{valued_more}
use Rattle.verdicts.proofs.backward.end_row.Goals as goal

pub loop-i-preserved : goal.loop-i-preserved
loop-i-preserved g c =
    let r = c.args.rule.now in
    let o = g.S.Scale.ops in
    let i = c.loop-i.i in
    let here = c.loop-i.here in
    let same = c.nodes-node-items.ensures.same in
    let long : length (nodes_of r) ≡ node_count r = sym (ap length same) ∙ c.nodes-node-items.ensures.long in
    let low : i < length (nodes_of r) = omega arith in
    let is = c.node_end.ensures ∙ ap (λ ns. step_end o (at o here) (node_at ns i)) same ∙ end_value o (nodes_of r) (nodes_ordered r long) here i low c.loop-i.invariant in
    valued_more o (nodes_of r) here [] i c.node_end.result (omega arith) is c.loop-i.invariant
