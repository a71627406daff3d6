use Rattle.std.proofs.Common.{◌∙◌}
use Rattle.progression.proofs.operators.node_table.Goals as goal

pub returns-in-Letter : goal.returns-in-Letter
returns-in-Letter c = rw c.in-Letter.is (λ v h. c.constant.ensures v h ∙ c.is_on.ensures)
