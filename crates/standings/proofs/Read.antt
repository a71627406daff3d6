-- The rule that is read from a text has the table of the tree that the text says. Assumes nothing.
use Rattle.std.proofs.Common.{◌≡◌, ℕ, List, [], ◌∷◌, length, refl, sym, ap, ap₂, subst, ◌∙◌, arith, length-take-le}
use Rattle.rules.specs.Grammar.{Derives}
use Rattle.rules.specs.Names.{gather, numbered}
use Rattle.rules.specs.Reading.{Says}
use Rattle.rules.specs.Rules.{letters_of, letter_count, nodes_of, node_count}
use Rattle.rules.specs.Text.{Placed, the_end, ◌then◌}
use Rattle.rules.specs.Tree.{Tree, flatten}
use Rattle.rules.specs.declared.rule.Letter.{Letter}
use Rattle.rules.proofs.Flat.{flat_length}
use Rattle.rules.proofs.Numbering.{size_numbered}
use Rattle.rules.proofs.OneTree.{one_tree}
use Rattle.standings.specs.Table.{ReadTabled}

same_row : (n : ℕ) (xs ys : List Placed) → xs then the_end n ≡ ys then the_end n → xs ≡ ys
same_row n [] [] e = refl
same_row n [] (y ∷ ys) e = cc
same_row n (x ∷ xs) [] e = cc
same_row n (x ∷ xs) (y ∷ ys) e =
    let first : x ≡ y = cc in
    let more : xs then the_end n ≡ ys then the_end n = cc in
    ap₂ (λ p ps. p ∷ ps) first (same_row n xs ys more)

same_tree : {text : List ℕ} {t u : Tree Letter} → Says text t → Says text u → t ≡ u
same_tree {text} {t} {u} x y =
    let e : y.row ≡ x.row = same_row (length text) y.row x.row (sym y.spells ∙ x.spells) in
    one_tree x.row t u x.derives (subst (λ (ss : List Placed). Derives 1 ss u) e y.derives)

pub read_tabled : ReadTabled
read_tabled text t r says w nodes letters =
    let e : w.tree ≡ t = same_tree w.says says in
    let known : letters_of r ≡ gather [] t = w.letters ∙ ap (gather []) e in
    let table : nodes_of r ≡ flatten (numbered (gather [] t) t) 0 = w.nodes ∙ ap₂ (λ (l : List Letter) (u : Tree Letter). flatten (numbered l u) 0) known e in
    record {
      nodes = table;
      count = sym (length-take-le (node_count r) r.table.nodes (omega (arith, r.few, nodes))) ∙ ap length table ∙ flat_length (numbered (gather [] t) t) 0 ∙ size_numbered (gather [] t) t;
      letters = sym (length-take-le (letter_count r) r.table.letters (omega (arith, r.known, letters))) ∙ ap length known;
    }
