use Rattle.std.proofs.Common.{sym}
use Rattle.rules.proofs.Flat.{rule_flat}
use Rattle.rules.proofs.rule.Rule.nodes.Goals as goal

pub returns-clause-whole : goal.returns-clause-whole
returns-clause-whole c = sym (rule_flat c.args.self.now)
