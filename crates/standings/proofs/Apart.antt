-- On words no event shows two names. Assumes nothing.
use Rattle.std.proofs.Common.{◌≡◌, ℕ, Bool, true, false, cond, ◌&&◌, ◌==◌, nat_lt, List, [], ◌∷◌, length, refl, ap₂, arith, eqb-true}
use Rattle.rules.specs.Tree.{Tree, leaf, before, between}
use Rattle.rules.specs.declared.node.Unary.{Unary}
use Rattle.rules.specs.declared.node.Binary.{Binary}
use Rattle.readings.specs.declared.mark.Mark.TheVariants.{Off, On}
use Rattle.verdicts.specs.Meaning.{means, rows}
use Rattle.verdicts.specs.Valuation.{laid, worth_of}
use Rattle.verdicts.specs.YesNo.{yes_no, lower, other}
use Rattle.verdicts.specs.declared.scale.YesNo.{YesNo}
use Rattle.verdicts.specs.declared.scale.YesNo.TheVariants.{Broken, Kept}
use Rattle.examples.specs.Table.{abc}

shown : Bool → Bool → YesNo
shown known same = worth_of yes_no Broken (cond known (cond same On Off) Off)

apart : (known x y : Bool) → ((x ≡ true) × (y ≡ true) → ⊥) → other (lower (shown known x) (shown known y)) ≡ Kept
unfolding shown
apart false x y differ = refl
apart true false y differ = refl
apart true true false differ = refl
apart true true true differ = absurd (differ (refl, refl))

-- [] !(a /\ b), by the numbers of its letters
abbrev never : Tree ℕ
never = before Unary.Always (before Unary.Not (between Binary.And (leaf 0) (leaf 1)))

pub never_both : (cs : List ℕ) → means yes_no never (rows (length cs) 2 (laid yes_no Broken abc (1 ∷ 2 ∷ []) cs)) ≡ Kept
unfolding shown
never_both [] = refl
never_both (c ∷ cs) =
    ap₂ lower
    (apart (nat_lt c 256 && true && true) (c == 1) (c == 2) (λ e. let x : c ≡ 1 = eqb-true c 1 e.0 in let y : c ≡ 2 = eqb-true c 2 e.1 in omega arith))
    (never_both cs)
