use Rattle.std.proofs.Common.{◌≡◌, ℕ, Bool, true, false, Decides, sym, subst}
use Rattle.polynomials.specs.Held.{vectors}
use Rattle.reachable.specs.Reach.{Moves, Exact, ForGood}
use Rattle.reachable.proofs.Exact.{exact_for_good}
use Rattle.reachable.proofs.for_good.Goals as goal

module _ (m : Moves) (in_set table : ℕ → Bool) (exact : Exact m in_set) where
  decided : (r x kept : Bool) → kept ≡ x → Decides r ((v : ℕ) → in_set v ≡ true → table v ≡ x) → Decides r (ForGood m table kept)
  decided r x kept same d =
      let all = exact_for_good m in_set table x exact in
      subst (λ b. Decides r (ForGood m table b)) (sym same) (λ e. all.0 (d.0 e), λ f. d.1 (all.1 f))

pub returns-then-kept : goal.returns-then-kept
returns-then-kept c m exact =
    decided m (vectors c.args.reached) (vectors c.args.table) exact c.within.result true c.args.kept c.if-kept.true c.within.ensures

pub returns-else-kept : goal.returns-else-kept
returns-else-kept c m exact =
    decided m (vectors c.args.reached) (vectors c.args.table) exact c.disjoint.result false c.args.kept c.if-kept.false c.disjoint.ensures
