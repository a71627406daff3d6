-- Each example: the signs and the derivation of its text; its meaning comes by computation. Assumes nothing.
use mathlib.Core.Path.{refl}
use mathlib.Core.Bool.{true, false}
use mathlib.Core.List.{List, [], ◌∷◌}
use Prim.Native.Nat.{ℕ}
use lib.Chars.{codes}
use Rattle.rules.specs.First.{first}
use Rattle.rules.specs.Grammar.{Derives, a_name, a_truth, a_before, up, to_left}
use Rattle.rules.specs.Names.{same_name}
use Rattle.rules.specs.Signs.{lex, name_of}
use Rattle.rules.specs.Text.{Placed, placed, signs}
use Rattle.rules.specs.Tree.{Tree, leaf, truth, before, between}
use Rattle.rules.specs.declared.name.Name.{Name}
use Rattle.rules.specs.declared.node.Unary.{Unary}
use Rattle.rules.specs.declared.node.Binary.{Binary}
use Rattle.rules.specs.declared.rule.Letter.{Letter}
use Rattle.rules.specs.declared.sign.Sign.{Sign}
use Rattle.readings.specs.Listed.{find_in}
use Rattle.examples.specs.Table.{AllShown, table}

-- an operand as a whole rule, and as a side of `or`
whole : {ss : List Placed} {t : Tree Letter} → Derives 7 ss t → Derives 1 ss t
whole d = up (up (up (up (up (up d)))))

side : {ss : List Placed} {t : Tree Letter} → Derives 7 ss t → Derives 4 ss t
side d = up (up (up d))

-- the name a, and the letter a at a byte
abbrev name : Name
name = name_of 1 (codes "a")

abbrev letter : ℕ → Tree Letter
letter n = leaf (record { name = name; at = n })

pub all_shown : AllShown table
unfolding signs lex same_name find_in first
all_shown = (
  record {
    tree = before Unary.Always (truth false);
    says = record { row = placed (Sign.Before Unary.Always) 0 ∷ placed (Sign.Truth false) 2 ∷ []; spells = refl; derives = whole (a_before a_truth) };
    answers = refl;
  },
  (
    record {
      tree = before Unary.Not (letter 1);
      says = record { row = placed (Sign.Before Unary.Not) 0 ∷ placed (Sign.Name name) 1 ∷ []; spells = refl; derives = whole (a_before a_name) };
      answers = refl;
    },
    (
      record {
        tree = before Unary.Eventually (truth true);
        says = record { row = placed (Sign.Before Unary.Eventually) 0 ∷ placed (Sign.Truth true) 2 ∷ []; spells = refl; derives = whole (a_before a_truth) };
        answers = refl;
      },
      (
        record {
          tree = letter 0;
          says = record { row = placed (Sign.Name name) 0 ∷ []; spells = refl; derives = whole a_name };
          answers = refl;
        },
        (
          record {
            tree = between Binary.Or (letter 0) (before Unary.Not (letter 6));
            says = record { row = placed (Sign.Name name) 0 ∷ placed (Sign.Between Binary.Or) 2 ∷ placed (Sign.Before Unary.Not) 5 ∷ placed (Sign.Name name) 6 ∷ []; spells = refl; derives = up (up (to_left 2 refl refl (up (side a_name)) (side (a_before a_name)))) };
            answers = refl;
          },
          (
            record {
              tree = between Binary.Or (letter 0) (truth true);
              says = record { row = placed (Sign.Name name) 0 ∷ placed (Sign.Between Binary.Or) 2 ∷ placed (Sign.Truth true) 5 ∷ []; spells = refl; derives = up (up (to_left 2 refl refl (up (side a_name)) (side a_truth))) };
              answers = refl;
            },
            tt,
          ),
        ),
      ),
    ),
  ),
)
