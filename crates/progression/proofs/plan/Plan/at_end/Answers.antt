use Rattle.std.proofs.Common.{◌≡◌, ℕ, Bool, ◌&&◌, ltb, [], sym, ap, ◌∙◌, rules, arith}
use Rattle.rules.specs.Tree.{decode}
use Rattle.rules.specs.declared.rule.Rule.{Rule}
use Rattle.verdicts.specs.Meaning.{means}
use Rattle.verdicts.specs.Step.{at}
use Rattle.verdicts.specs.YesNo.{yes_no}
use Rattle.polynomials.specs.Sets.{set_below}
use Rattle.polynomials.proofs.Digits.{set_none, set_more, set_skip}
use Rattle.progression.specs.Obligations.{node_of, obligations, place}
use Rattle.progression.specs.Progress.{is_kept, at_end}
use Rattle.progression.proofs.Made.{by_both}
use Rattle.progression.proofs.Tabled.{end_within, end_past}
use Rattle.progression.proofs.plan.Plan.at_end.Goals as goal
use Rattle.progression.proofs.plan.Plan.at_end.Goals.{then-is_some_and, else-is_some_and}

abbrev test : Rule → ℕ → Bool
test r i = ltb i (obligations r) && is_kept (means yes_no (decode (node_of r) (place r i)) [])

pub loop-i-init : goal.loop-i-init
loop-i-init c = set_none (test c.args.self.now.rule)

pub loop-i-preserved : goal.loop-i-preserved
loop-i-preserved c =
    let r = c.args.self.now.rule in
    let f : ℕ → Bool = test r in
    let is : c.is_some_and.result ≡ f c.loop-i.i =
    by_both c.place.result _ _ _ _ _ c.place.ensures c.is_some_and.ensures
    (λ far e. e ∙ end_past r c.loop-i.i far _)
    (λ j q e.
    let kept : c.is_some_and.result ≡ is_kept (at yes_no c.ended-values.result j) = search rules in
    kept ∙ end_within r c.loop-i.i j q.0 q.1 c.ended-values.result c.ended-values.ensures) in
    elim c.if-is_some_and.branch [
      | then-is_some_and w ↦ w.vector-is ∙ set_more c.loop-i.i c.loop-i.vector f (omega arith) c.loop-i.invariant (sym is ∙ w.if-is_some_and.true)
      | else-is_some_and w ↦ w.vector-is ∙ set_skip c.loop-i.i c.loop-i.vector f c.loop-i.invariant (sym is ∙ w.if-is_some_and.false)
    ]

pub returns : goal.returns
unfolding at_end
returns c =
    let all : c.loop-i.i ≡ 8 = omega arith in
    c.loop-i.invariant ∙ ap (λ (n : ℕ). set_below n (test c.args.self.now.rule)) all
