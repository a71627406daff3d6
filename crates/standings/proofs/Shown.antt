-- Each example: the signs and the derivation of its text; its meaning comes by computation. Assumes nothing.
use Rattle.std.proofs.Common.{ℕ, ◌+◌, ◌*◌, List, [], ◌∷◌, codes, refl, arith}
use Rattle.rules.specs.First.{first}
use Rattle.rules.specs.Grammar.{Derives, a_name, a_before, a_group, up, to_left}
use Rattle.rules.specs.Names.{same_name}
use Rattle.rules.specs.Signs.{lex, name_of}
use Rattle.rules.specs.Reading.{Says}
use Rattle.rules.specs.Text.{Placed, placed, signs}
use Rattle.rules.specs.Tree.{Tree, leaf, before, between}
use Rattle.rules.specs.declared.name.Name.{Name}
use Rattle.rules.specs.declared.node.Unary.{Unary}
use Rattle.rules.specs.declared.node.Binary.{Binary}
use Rattle.rules.specs.declared.rule.Letter.{Letter}
use Rattle.rules.specs.declared.sign.Sign.{Sign}
use Rattle.readings.specs.Listed.{find_in}
use Rattle.readings.specs.Meaning.{doubt_set, worth}
use Rattle.verdicts.specs.declared.scale.YesNo.TheVariants.{Broken, Kept}
use Rattle.progression.specs.Obligations.{count_below, any_below}
use Rattle.examples.specs.Table.{abc}
use Rattle.standings.specs.Table.{AllShown, table, panel_of_two, an_a, a_b}
use Rattle.standings.proofs.Standing.{Few, obligations_of, for_good, so_far}
use Rattle.standings.proofs.Apart.{never_both}

-- an operand as a whole rule
whole : {ss : List Placed} {t : Tree Letter} → Derives 7 ss t → Derives 1 ss t
whole d = up (up (up (up (up (up d)))))

-- the names a and b, and the letters a and b at a byte
abbrev name : Name
name = name_of 1 (codes "a")

abbrev letter : ℕ → Tree Letter
letter n = leaf (record { name = name; at = n })

abbrev second : ℕ → Tree Letter
second n = leaf (record { name = name_of 1 (codes "b"); at = n })

abbrev henceforth_a : Tree Letter
henceforth_a = before Unary.Always (letter 3)

abbrev one_day_a : Tree Letter
one_day_a = before Unary.Eventually (letter 3)

abbrev not_both : Tree Letter
not_both = before Unary.Always (before Unary.Not (between Binary.And (letter 5) (second 10)))

abbrev not_next : Tree Letter
not_next = before Unary.Next (before Unary.Not (letter 3))

says_henceforth_a : Says (codes "[] a") henceforth_a
unfolding signs lex
says_henceforth_a = record { row = placed (Sign.Before Unary.Always) 0 ∷ placed (Sign.Name name) 3 ∷ []; spells = refl; derives = whole (a_before a_name) }

says_one_day_a : Says (codes "<> a") one_day_a
unfolding signs lex
says_one_day_a = record { row = placed (Sign.Before Unary.Eventually) 0 ∷ placed (Sign.Name name) 3 ∷ []; spells = refl; derives = whole (a_before a_name) }

says_not_both : Says (codes "[] !(a /\\ b)") not_both
unfolding signs lex
says_not_both = record {
  row = placed (Sign.Before Unary.Always) 0 ∷ placed (Sign.Before Unary.Not) 3 ∷ placed Sign.Open 4 ∷ placed (Sign.Name name) 5 ∷ placed (Sign.Between Binary.And) 7 ∷ placed (Sign.Name (name_of 1 (codes "b"))) 10 ∷ placed Sign.Close 11 ∷ [];
  spells = refl;
  derives = whole (a_before (a_before (a_group 4 11 (up (up (up (up (to_left 7 refl refl (up (up a_name)) (up a_name)))))))));
}

says_not_next : Says (codes "o !a") not_next
unfolding signs lex
says_not_next = record { row = placed (Sign.Before Unary.Next) 0 ∷ placed (Sign.Before Unary.Not) 2 ∷ placed (Sign.Name name) 3 ∷ []; spells = refl; derives = whole (a_before (a_before a_name)) }

few_henceforth_a : Few henceforth_a
unfolding same_name obligations_of count_below any_below
few_henceforth_a = refl

few_one_day_a : Few one_day_a
unfolding same_name obligations_of count_below any_below
few_one_day_a = refl

few_not_both : Few not_both
unfolding same_name obligations_of count_below any_below
few_not_both = refl

few_not_next : Few not_next
unfolding same_name obligations_of count_below any_below
few_not_next = refl

-- both names of a panel at once, with their answers
both : ℕ
both = 3 + 256 * 3

pub all_shown : AllShown table
unfolding same_name find_in first doubt_set worth both
all_shown = (
  record { tree = henceforth_a; says = says_henceforth_a; answers = λ r is. so_far abc henceforth_a few_henceforth_a r is [] Kept refl (a_b ∷ []) ((omega arith, refl), tt) refl },
  (
    record { tree = henceforth_a; says = says_henceforth_a; answers = λ r is. for_good abc henceforth_a few_henceforth_a r is (a_b ∷ []) Broken refl (λ rest. refl) },
    (
      record { tree = one_day_a; says = says_one_day_a; answers = λ r is. so_far abc one_day_a few_one_day_a r is [] Broken refl (an_a ∷ []) ((omega arith, refl), tt) refl },
      (
        record { tree = one_day_a; says = says_one_day_a; answers = λ r is. for_good abc one_day_a few_one_day_a r is (an_a ∷ []) Kept refl (λ rest. refl) },
        (
          record { tree = not_both; says = says_not_both; answers = λ r is. for_good abc not_both few_not_both r is [] Kept refl never_both },
          (
            record { tree = not_both; says = says_not_both; answers = λ r is. so_far panel_of_two not_both few_not_both r is [] Kept refl (both ∷ []) ((omega arith, refl), tt) refl },
            (
              record { tree = not_next; says = says_not_next; answers = λ r is. so_far abc not_next few_not_next r is (an_a ∷ []) Kept refl (an_a ∷ []) ((omega arith, refl), tt) refl },
              (
                record { tree = not_next; says = says_not_next; answers = λ r is. for_good abc not_next few_not_next r is (an_a ∷ an_a ∷ []) Broken refl (λ rest. refl) },
                tt,
              ),
            ),
          ),
        ),
      ),
    ),
  ),
)
