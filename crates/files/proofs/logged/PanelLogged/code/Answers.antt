use Rattle.std.proofs.Common.{sym, ◌∙◌, subst, arith}
use Rattle.files.specs.Event.{ReadsState}
use Rattle.files.proofs.Spelling.{state_parts}
use Rattle.files.proofs.logged.PanelLogged.code.Goals as goal

pub returns-in_err-levels : goal.returns-in_err-levels
returns-in_err-levels c =
    subst (ReadsState c.args.text.now) (sym c.from_residual.ensures) (λ l a small _ e. omega (arith, (state_parts c.args.text.now l a small e).0, c.in_err-levels.ensures))

pub returns-in_err-level : goal.returns-in_err-level
returns-in_err-level c =
    subst (ReadsState c.args.text.now) (sym c.from_residual-in_err-level.ensures) (λ l a small _ e.
    c.in_err-level.ensures l small (c.in_ok-levels.ensures.front_is ∙ (state_parts c.args.text.now l a small e).1))

pub returns-in_err-answer : goal.returns-in_err-answer
returns-in_err-answer c =
    subst (ReadsState c.args.text.now) (sym c.from_residual-in_err-answer.ensures) (λ l a small few e.
    c.in_err-answer.ensures a few (c.in_ok-levels.ensures.back_is ∙ (state_parts c.args.text.now l a small e).2))
