use Rattle.std.proofs.Common.{◌≡◌, ◌-◌, ◌<◌, length, None, Ok, sym, ap, ◌∙◌, subst, arith, rules}
use Rattle.std.proofs.lemmas.List.{get_or_read}
use Rattle.rules.specs.Rules.{node_count, nodes_of, tree_of_rule}
use Rattle.verdicts.specs.Meaning.{means}
use Rattle.verdicts.specs.Step.{at}
use Rattle.rules.specs.First.{Left, answer}
use Rattle.verdicts.specs.Outcome.{Filled, refused, recorded}
use Rattle.rules.proofs.Flat.{flat_decode}
use Rattle.verdicts.proofs.backward.evaluate.Goals as goal

pub returns : goal.returns
returns g c =
    let rule = c.args.rule.now in
    let n = c.args.n in
    let xs = c.args.valuation.now in
    let old = c.args.scratch.now in
    let new = c.fill.new.scratch in
    let ops = g.S.Scale.ops in
    let nodes = c.nodes-m.result.now in
    let no = refused rule n xs old in
    let same = c.nodes-m.ensures.same in
    let long : length (nodes_of rule) ≡ node_count rule = sym (ap length same) ∙ c.nodes-m.ensures.long in
    let none : no ≡ None = search rules in
    let done = c.fill.ensures in
    let last : length nodes - 1 ≡ node_count rule - 1 = ap (λ i. i - 1) c.nodes-m.ensures.long in
    let within : length nodes - 1 < length new = omega arith in
    let low : node_count rule - 1 < node_count rule = omega (arith, rule.some) in
    let root : c.index-scratch-m.result ≡ means ops (tree_of_rule rule) (recorded rule n xs) =
    get_or_read new (length nodes - 1) c.index-scratch-m.result within c.index-scratch-m.is ops.bottom ∙ ap (at ops new) last ∙ done.here (node_count rule - 1) low in
    let is : Ok c.index-scratch-m.result ≡ answer no (means ops (tree_of_rule rule) (recorded rule n xs)) =
    ap Ok root ∙ ap (λ f. answer f (means ops (tree_of_rule rule) (recorded rule n xs))) (sym none) in
    record {
      answers = is;
      means_tree = λ t w. is ∙ ap (λ x. answer no (means ops x (recorded rule n xs))) (flat_decode t (nodes_of rule) (node_count rule) long w);
      leaves = subst (λ f. Left f (new ≡ old) (Filled ops (nodes_of rule) (node_count rule) n (recorded rule n xs) old new)) (sym none) done;
    }
