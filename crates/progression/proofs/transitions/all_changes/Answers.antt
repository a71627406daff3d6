use Rattle.std.proofs.Common.{[], rules}
use Rattle.progression.specs.Tables.{Changes}
use Rattle.progression.proofs.Made.{made}
use Rattle.progression.proofs.transitions.all_changes.Goals as goal

pub returns : goal.returns
returns c a h = made _ _ c.from_fn.result 256 (λ k x. Changes c.args.plan.now.rule k x) (λ k x q l e. (search rules, search rules)) c.from_fn.ensures.items a [] h
