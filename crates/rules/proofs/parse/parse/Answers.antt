use Rattle.rules.proofs.Levels.{behind_rule}
use Rattle.rules.proofs.Steps.{stopped_at}
use Rattle.rules.proofs.parse.parse.Goals as goal

pub returns-in_err-closed : goal.returns-in_err-closed
returns-in_err-closed c =
    stopped_at _ _ c.from_residual-in_err-closed.ensures.1 (behind_rule c.empty-table.ensures.size c.empty-table.ensures.count c.in_ok-rest.ensures.0 c.in_err-closed.ensures)
