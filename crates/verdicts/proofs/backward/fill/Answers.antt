use Rattle.std.proofs.Common.{◌≡◌, ◌+◌, ◌-◌, ◌*◌, ◌++◌, take, drop, sym, ap, ◌∙◌, subst, arith}
use Rattle.rules.specs.Rules.{node_count, letter_count, nodes_of}
use Rattle.verdicts.specs.Step.{Valued}
use Rattle.verdicts.specs.Outcome.{Filled, recorded}
use Rattle.verdicts.proofs.Fill.{Going, going_none, going_more, going_all}
use Rattle.verdicts.proofs.backward.fill.Goals as goal

pub loop-p-init : goal.loop-p-init
loop-p-init g c =
    let r = c.args.rule.now in
    going_none g.S.Scale.ops (nodes_of r) (node_count r) (letter_count r) c.args.n c.args.valuation.now c.end_row.new.here c.split_at_mut-next.result.0.now c.end_row.ensures

pub loop-p-preserved : goal.loop-p-preserved
loop-p-preserved g c =
    let r = c.args.rule.now in
    let o = g.S.Scale.ops in
    let m = node_count r in
    let xs = c.args.valuation.now in
    let p = c.loop-p.p in
    let start = c.split_at_mut-next.result.0.now in
    let rs = recorded r c.args.n xs in
    let kept = sym c.copy_from_slice.ensures.after in
    let back : p - 1 + 1 ≡ p = omega arith in
    let letters = c.letters_at.ensures.same ∙ ap (λ k. take k (drop ((p - 1) * k) xs)) c.letters-k.ensures.long in
    let made = c.row.ensures (drop p rs) (subst (λ y. Valued o (nodes_of r) y (drop p rs) m) kept c.loop-p.invariant.first) in
    subst (λ y. Going o (nodes_of r) m c.args.n (p - 1) rs start c.row.new.here y) kept
    (going_more o (nodes_of r) m (letter_count r) c.args.n xs p (p - 1) c.letters_at.result.now start c.loop-p.here c.loop-p.next c.row.new.here back letters c.loop-p.invariant made)

pub returns : goal.returns
returns g c =
    let r = c.args.rule.now in
    let o = g.S.Scale.ops in
    let m = node_count r in
    let n = c.args.n in
    let xs = c.args.valuation.now in
    let here = c.loop-p.here in
    let next = c.loop-p.next in
    let before = c.split_at_mut-here.result.0.now in
    let start = c.split_at_mut-next.result.0.now in
    let rest = c.split_at_mut-next.result.1.now in
    let parts : c.args.scratch.now ≡ before ++ (start ++ rest) = c.split_at_mut-here.ensures.value ∙ ap (λ y. before ++ y) c.split_at_mut-next.ensures.value in
    subst (λ old. Filled o (nodes_of r) m n (recorded r n xs) old (here ++ (next ++ rest))) (sym parts)
    (going_all o (nodes_of r) m (letter_count r) n xs c.loop-p.p before start here next rest c.loop-p-test.false (omega arith) (omega arith) (omega arith) (omega arith) c.loop-p.invariant)
