use Rattle.std.proofs.Common.{◌≡◌, ◌<◌, ◌∷◌, length, sym, ap, ap₂, ◌∙◌, arith}
use Rattle.std.proofs.lemmas.List.{get_or_read}
use Rattle.rules.specs.Rules.{node_count, nodes_of}
use Rattle.rules.specs.Tree.{node_at}
use Rattle.verdicts.specs.Step.{step_row, at}
use Rattle.verdicts.proofs.Lift.{row_value}
use Rattle.verdicts.proofs.Rules.{nodes_ordered}
use Rattle.verdicts.proofs.Steps.{valued_more}
use Rattle.verdicts.proofs.backward.row.Goals as goal

pub loop-i-preserved : goal.loop-i-preserved
loop-i-preserved g c = λ rs after.
    let r = c.args.rule.now in
    let o = g.S.Scale.ops in
    let i = c.loop-i.i in
    let here = c.loop-i.here in
    let next = c.args.next.now in
    let letters = c.args.letters.now in
    let same = c.nodes-node-items.ensures.same in
    let long : length (nodes_of r) ≡ node_count r = sym (ap length same) ∙ c.nodes-node-items.ensures.long in
    let low : i < length (nodes_of r) = omega arith in
    let within : i < length next = omega arith in
    let own : c.index-next-i.result ≡ at o next i = get_or_read next i c.index-next-i.result within c.index-next-i.is o.bottom in
    let old = c.loop-i.invariant rs after in
    let is = c.node_row.ensures
    ∙ ap₂ (λ w ns. step_row o (at o letters) (at o here) (at o next) w (node_at ns i)) own same
    ∙ row_value o (nodes_of r) (nodes_ordered r long) g.met.S.Scale.lattice letters next here rs i low (λ j l. after j (omega arith)) old in
    valued_more o (nodes_of r) here (letters ∷ rs) i c.node_row.result (omega arith) is old
