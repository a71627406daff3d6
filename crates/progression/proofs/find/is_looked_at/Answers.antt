use Rattle.std.proofs.Common.{◌∙◌, rules, tests}
use Rattle.std.proofs.lemmas.Iterator.{YieldsList-from_slice}
use Rattle.std.proofs.lemmas.Iterator.Search.{any_from_yields_List}
use Rattle.rules.specs.declared.node.Node.{Node}
use Rattle.progression.specs.Obligations.{looks_at}
use Rattle.progression.proofs.Counts.{any_listed}
use Rattle.progression.proofs.find.is_looked_at.Goals as goal

pub returns : goal.returns
returns c =
    any_from_yields_List (looks_at c.args.j) _ _ _ c.any.ensures.ran (YieldsList-from_slice c.args.nodes.now (cc)) (λ x b q k. search (rules, tests))
    ∙ any_listed (looks_at c.args.j) c.args.nodes.now (Node.Letter 0)
