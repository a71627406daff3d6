use Rattle.std.proofs.Common.{ℕ, ◌-◌, ◌<◌, ◌≤◌, leb, get_or, sym, ap, ◌∙◌, arith}
use Rattle.std.proofs.lemmas.Bool.{le-leb, lt-leb, cond-true, cond-false}
use Rattle.rules.specs.Rules.{node_count}
use Rattle.polynomials.specs.Polynomial.{Polynomial, variable}
use Rattle.progression.specs.Obligations.{obligations}
use Rattle.progression.specs.Progress.{nothing, later, fresh}
use Rattle.progression.proofs.Tabled.{root_number}
use Rattle.progression.proofs.plan.Plan.fresh.Goals as goal

pub returns-then-self-gt-MOST_OBLIGATIONS : goal.returns-then-self-gt-MOST_OBLIGATIONS
unfolding fresh nothing
returns-then-self-gt-MOST_OBLIGATIONS c s l =
    let p = c.args.self.now in
    let r = p.rule in
    let many : 8 < obligations r = omega (arith, p.counted) in
    c.zero.ensures s
    ∙ ap (λ (P : Polynomial). P s) (sym (cond-false (leb (obligations r) 8) (later r (node_count r - 1)) nothing (lt-leb (obligations r) 8 many)))

pub returns : goal.returns
unfolding fresh
returns c s l =
    let p = c.args.self.now in
    let r = p.rule in
    let few : obligations r ≤ 8 = omega (arith, p.counted) in
    c.variable.ensures.products s l
    ∙ ap (λ (n : ℕ). variable (get_or p.numbers (n - 1) 0) s) c.nodes.ensures.long
    ∙ ap (λ (i : ℕ). variable i s) (root_number p)
    ∙ ap (λ (P : Polynomial). P s) (sym (cond-true (leb (obligations r) 8) (later r (node_count r - 1)) nothing (le-leb (obligations r) 8 few)))
