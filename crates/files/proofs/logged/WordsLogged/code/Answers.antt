use Rattle.std.proofs.Common.{◌<◌, ◌≤◌, length, sym, ◌∙◌, subst, rules}
use Rattle.std.specs.Bool.{MatchBool}
use Rattle.files.specs.Lines.{before}
use Rattle.files.proofs.Parting.{contained}
use Rattle.files.proofs.logged.WordsLogged.code.Goals as goal

pub returns-then-contains : goal.returns-then-contains
returns-then-contains c =
    let t = c.args.text.now in
    subst (λ b. MatchBool b (before 9 t < length t) (length t ≤ before 9 t)) (sym c.contains.ensures.value ∙ c.if-contains.true) (contained 9 t)

pub returns : goal.returns
returns c =
    let t = c.args.text.now in
    (subst (λ b. MatchBool b (before 9 t < length t) (length t ≤ before 9 t)) (sym c.contains.ensures.value ∙ c.if-contains.false) (contained 9 t), search rules)
