-- The rules of support are right: by the values of the nodes, some way is given just where the sign says the node's value.
-- Assumes nothing.
use Rattle.std.proofs.Common.{◌≡◌, ℕ, ◌+◌, ◌<◌, ◌≤◌, Bool, true, false, cond, ◌&&◌, ◌||◌, List, [], ◌∷◌, map, length, get_or, drop, sym, refl, ap, ◌∙◌, subst, ap₂, arith}
use Rattle.std.proofs.lemmas.List.{drop_all, drop_more, get_or-map, length-map}
use Rattle.std.proofs.lemmas.Bool.{ltb-true, ltb-false}
use Rattle.rules.specs.Rules.{node_count, letter_count, nodes_of, tree_of_rule}
use Rattle.rules.specs.Tree.{Tree, tree_of, decode, node_at}
use Rattle.rules.specs.declared.node.Unary.{Unary}
use Rattle.rules.specs.declared.node.Binary.{Binary}
use Rattle.rules.specs.declared.node.Node.{Node}
use Rattle.readings.specs.Meaning.{Meaning, mark_of}
use Rattle.verdicts.specs.Case.{Case, record_of}
use Rattle.verdicts.specs.Meaning.{means, letter, unary, binary, rows}
use Rattle.verdicts.specs.Step.{Known, unary_end, unary_row, binary_end, binary_row}
use Rattle.verdicts.specs.Valuation.{worth_of, row_of, laid}
use Rattle.verdicts.specs.YesNo.{yes_no, lower, higher, other as other_verdict}
use Rattle.verdicts.specs.declared.scale.YesNo.{YesNo}
use Rattle.verdicts.specs.declared.scale.YesNo.TheVariants.{Broken, Kept}
use Rattle.verdicts.proofs.Lift.{decode_step}
use Rattle.verdicts.proofs.Recur.{unary_end_lem, unary_row_lem, binary_end_lem, binary_row_lem}
use Rattle.verdicts.proofs.Rules.{nodes_ordered, nodes_lettered}
use Rattle.verdicts.proofs.Traced.{rows_laid, rows_written}
use Rattle.claims.specs.Ways.{other, fact, turned, only, all, any, alike, comes, before_ways, between_ways, ways, is_event, letter_at, ways_at, agree, is_true, given}
pub use Rattle.claims.specs.Bound.{Bound}
use Rattle.claims.specs.Claims.{meant, Evaluated}
use Rattle.claims.specs.Posed.{posed}
use Rattle.claims.specs.declared.case.Case.{Case as Held}
use Rattle.claims.specs.declared.claim.Sign.{Sign}
use Rattle.claims.specs.declared.claim.Sign.TheVariants.{Holds, Fails}
use Rattle.claims.specs.declared.grounds.Fact.{Fact}
use Rattle.verdicts.proofs.Laws.{yes_no_laws}

-- a value, or the other one, as a sign says
abbrev toward : Sign → YesNo → YesNo
toward Holds v = v
toward Fails v = other_verdict v

toward_holds : (s : Sign) (v : YesNo) → agree s v ≡ agree Holds (toward s v)
toward_holds Holds v = refl
toward_holds Fails Kept = refl
toward_holds Fails Broken = refl

toward_fails : (s : Sign) (v : YesNo) → agree (other s) v ≡ agree Fails (toward s v)
toward_fails Holds v = refl
toward_fails Fails Kept = refl
toward_fails Fails Broken = refl

turn_right : (s : Sign) (v : YesNo) → agree (other s) v ≡ agree s (other_verdict v)
turn_right Holds Kept = refl
turn_right Holds Broken = refl
turn_right Fails Kept = refl
turn_right Fails Broken = refl

-- the tables of the operators, as tests of signs
lower_holds : (u v : YesNo) → (agree Holds u && agree Holds v) ≡ agree Holds (lower u v)
lower_holds Kept v = refl
lower_holds Broken v = refl

lower_fails : (u v : YesNo) → (agree Fails u || agree Fails v) ≡ agree Fails (lower u v)
lower_fails Kept v = refl
lower_fails Broken v = refl

higher_holds : (u v : YesNo) → (agree Holds u || agree Holds v) ≡ agree Holds (higher u v)
higher_holds Kept v = refl
higher_holds Broken v = refl

higher_fails : (u v : YesNo) → (agree Fails u && agree Fails v) ≡ agree Fails (higher u v)
higher_fails Kept v = refl
higher_fails Broken v = refl

abbrev equal : YesNo → YesNo → YesNo
equal u v = higher (lower u v) (lower (other_verdict u) (other_verdict v))

equal_holds : (u v : YesNo) → (agree Holds u && agree Holds v || agree Fails u && agree Fails v) ≡ agree Holds (equal u v)
equal_holds Kept Kept = refl
equal_holds Kept Broken = refl
equal_holds Broken Kept = refl
equal_holds Broken Broken = refl

equal_fails : (u v : YesNo) → (agree Holds u && agree Fails v || agree Fails u && agree Holds v) ≡ agree Fails (equal u v)
equal_fails Kept Kept = refl
equal_fails Kept Broken = refl
equal_fails Broken Kept = refl
equal_fails Broken Broken = refl

until_holds : (u v w : YesNo) → (agree Holds v || agree Holds u && agree Holds w) ≡ agree Holds (higher v (lower u w))
until_holds u Kept w = refl
until_holds u Broken w = lower_holds u w

until_fails : (u v w : YesNo) → (agree Fails v && agree Fails u || agree Fails v && agree Fails w) ≡ agree Fails (higher v (lower u w))
until_fails u Kept w = refl
until_fails u Broken w = lower_fails u w

back : (v : YesNo) → other_verdict (other_verdict v) ≡ v
back Kept = refl
back Broken = refl

module _ (t : ℕ → ℕ → YesNo) where
  only_right : (v : YesNo) (s : Sign) → given t (only v s) ≡ agree s v
  only_right Kept Holds = refl
  only_right Kept Fails = refl
  only_right Broken Holds = refl
  only_right Broken Fails = refl

  -- how true a fact is
  abbrev value : Fact → YesNo
  value x = toward x.sign (t x.place x.node)

  is_true_lem : (x : Fact) → is_true t x ≡ agree Holds (value x)
  is_true_lem x = toward_holds x.sign (t x.place x.node)

  is_false : (x : Fact) → is_true t (turned x) ≡ agree Fails (value x)
  is_false x = toward_fails x.sign (t x.place x.node)

  all_right : (x y : Fact) (s : Sign) → given t (all x y s) ≡ agree s (lower (value x) (value y))
  all_right x y Holds = ap₂ ◌&&◌ (is_true_lem x) (is_true_lem y) ∙ lower_holds (value x) (value y)
  all_right x y Fails = ap₂ ◌||◌ (is_false x) (is_false y) ∙ lower_fails (value x) (value y)

  any_right : (x y : Fact) (s : Sign) → given t (any x y s) ≡ agree s (higher (value x) (value y))
  any_right x y Holds = ap₂ ◌||◌ (is_true_lem x) (is_true_lem y) ∙ higher_holds (value x) (value y)
  any_right x y Fails = ap₂ ◌&&◌ (is_false x) (is_false y) ∙ higher_fails (value x) (value y)

  alike_right : (x y : Fact) (s : Sign) → given t (alike x y s) ≡ agree s (equal (value x) (value y))
  alike_right x y Holds = ap₂ ◌||◌ (ap₂ ◌&&◌ (is_true_lem x) (is_true_lem y)) (ap₂ ◌&&◌ (is_false x) (is_false y)) ∙ equal_holds (value x) (value y)
  alike_right x y Fails = ap₂ ◌||◌ (ap₂ ◌&&◌ (is_true_lem x) (is_false y)) (ap₂ ◌&&◌ (is_false x) (is_true_lem y)) ∙ equal_fails (value x) (value y)

  comes_right : (x y z : Fact) (s : Sign) → given t (comes x y z s) ≡ agree s (higher (value y) (lower (value x) (value z)))
  comes_right x y z Holds = ap₂ ◌||◌ (is_true_lem y) (ap₂ ◌&&◌ (is_true_lem x) (is_true_lem z)) ∙ until_holds (value x) (value y) (value z)
  comes_right x y z Fails = ap₂ ◌||◌ (ap₂ ◌&&◌ (is_false y) (is_false x)) (ap₂ ◌&&◌ (is_false y) (is_false z)) ∙ until_fails (value x) (value y) (value z)

  module _ (q j a : ℕ) (s : Sign) where
    before_end : (u : Unary) → given t (before_ways false q j u a s) ≡ agree s (unary_end yes_no u (t q a))
    before_end Unary.Not = turn_right s (t q a)
    before_end Unary.Always = only_right _ s
    before_end Unary.Eventually = only_right _ s
    before_end Unary.Next = only_right _ s

    before_row : (u : Unary) → given t (before_ways true q j u a s) ≡ agree s (unary_row yes_no u (t q a) (t (q + 1) a) (t (q + 1) j))
    before_row Unary.Not = turn_right s (t q a)
    before_row Unary.Always = all_right (fact q a Holds) (fact (q + 1) j Holds) s
    before_row Unary.Eventually = any_right (fact q a Holds) (fact (q + 1) j Holds) s
    before_row Unary.Next = refl

    module _ (b : ℕ) where
      xor_right : given t (alike (fact q a Holds) (fact q b Fails) s) ≡ agree s (binary_end yes_no Binary.Xor (t q a) (t q b))
      xor_right = alike_right (fact q a Holds) (fact q b Fails) s ∙ ap (λ v. agree s (higher (lower (t q a) (other_verdict (t q b))) (lower (other_verdict (t q a)) v))) (back (t q b))

      between_end : (o : Binary) → given t (between_ways false q j o a b s) ≡ agree s (binary_end yes_no o (t q a) (t q b))
      between_end Binary.Until = only_right _ s
      between_end Binary.And = all_right (fact q a Holds) (fact q b Holds) s
      between_end Binary.Xor = xor_right
      between_end Binary.Or = any_right (fact q a Holds) (fact q b Holds) s
      between_end Binary.Implies = any_right (fact q a Fails) (fact q b Holds) s
      between_end Binary.Iff = alike_right (fact q a Holds) (fact q b Holds) s

      between_row : (o : Binary) → given t (between_ways true q j o a b s) ≡ agree s (binary_row yes_no o (t q a) (t q b) (t (q + 1) j))
      between_row Binary.Until = comes_right (fact q a Holds) (fact q b Holds) (fact (q + 1) j Holds) s
      between_row Binary.And = between_end Binary.And
      between_row Binary.Xor = between_end Binary.Xor
      between_row Binary.Or = between_end Binary.Or
      between_row Binary.Implies = between_end Binary.Implies
      between_row Binary.Iff = between_end Binary.Iff

-- an operator at an event, and past the last, where its record L is not yet known to begin with the row r
module _ (L M : List (List YesNo)) (r : List YesNo) (e : L ≡ r ∷ M) where
  unary_at : (u : Unary) (x : List (List YesNo) → YesNo) → unary_row yes_no u (x L) (x M) (unary yes_no u x M) ≡ unary yes_no u x L
  unary_at u x = rw e (sym (unary_row_lem yes_no u x r M))

  binary_at : (o : Binary) (x y : List (List YesNo) → YesNo) → binary_row yes_no o (x L) (y L) (binary yes_no o x y M) ≡ binary yes_no o x y L
  binary_at o x y = rw e (sym (binary_row_lem yes_no yes_no_laws o x y r M))

module _ (L : List (List YesNo)) (e : L ≡ []) where
  unary_past : (u : Unary) (x : List (List YesNo) → YesNo) → unary_end yes_no u (x L) ≡ unary yes_no u x L
  unary_past u x = rw e (sym (unary_end_lem yes_no u x))

  binary_past : (o : Binary) (x y : List (List YesNo) → YesNo) → binary_end yes_no o (x L) (y L) ≡ binary yes_no o x y L
  binary_past o x y = rw e (sym (binary_end_lem yes_no o x y))

-- the record from a place on: at an event its row and the rest, past the last event nothing
abbrev Shape : Bool → List (List YesNo) → List (List YesNo) → Type 0
Shape true L M = (r : List YesNo) × (L ≡ r ∷ M)
Shape false L M = L ≡ []

module _ (g : ℕ → Tree ℕ) (at : ℕ → List (List YesNo)) (k q j : ℕ) (letters : ℕ → YesNo) (lettered : (l : ℕ) → l < k → letters l ≡ letter yes_no l (at q)) where
  abbrev values : ℕ → ℕ → YesNo
  values p a = means yes_no (g a) (at p)

  right : (event : Bool) → Shape event (at q) (at (q + 1)) → (n : Node) → Known k n → g j ≡ tree_of g n → (s : Sign) →
      given values (ways event letters q j n s) ≡ agree s (means yes_no (tree_of g n) (at q))
  right event here (Node.Letter l) known own s = only_right values (letters l) s ∙ ap (agree s) (lettered l known)
  right event here (Node.Truth v) known own s = only_right values _ s
  right true here (Node.Before u a) known own s =
      before_row values q j a s u
      ∙ ap (λ x. agree s (unary_row yes_no u (values q a) (values (q + 1) a) (means yes_no x (at (q + 1))))) own
      ∙ ap (agree s) (unary_at (at q) (at (q + 1)) here.0 here.1 u (means yes_no (g a)))
  right false here (Node.Before u a) known own s = before_end values q j a s u ∙ ap (agree s) (unary_past (at q) here u (means yes_no (g a)))
  right true here (Node.Between o a b) known own s =
      between_row values q j a s b o
      ∙ ap (λ x. agree s (binary_row yes_no o (values q a) (values q b) (means yes_no x (at (q + 1))))) own
      ∙ ap (agree s) (binary_at (at q) (at (q + 1)) here.0 here.1 o (means yes_no (g a)) (means yes_no (g b)))
  right false here (Node.Between o a b) known own s =
      between_end values q j a s b o ∙ ap (agree s) (binary_past (at q) here o (means yes_no (g a)) (means yes_no (g b)))

pub held : {R : Type 0} (means : R → Meaning) (c : Held R) → Bound (posed means c)
held means c = record { numbered = sym (ap length c.numbers_same) ∙ c.numbers_long; noded = sym (ap length c.nodes_same) ∙ c.nodes_long }

module _ (k : Case) (ok : Bound k) where
  abbrev row : ℕ → List YesNo
  row c = row_of yes_no Broken k.meaning k.numbers c

  abbrev at : ℕ → List (List YesNo)
  at q = drop q (record_of k)

  record_rows : record_of k ≡ map row k.trace
  record_rows =
      ap (λ n. rows (length k.trace) n (laid yes_no Broken k.meaning k.numbers k.trace)) (sym ok.numbered)
      ∙ rows_laid yes_no Broken k.meaning k.numbers k.trace

  at_event : (q : ℕ) → q < length k.trace → at q ≡ row (get_or k.trace q 0) ∷ at (q + 1)
  at_event q h =
      let rs = map row k.trace in
      let low : q < length rs = omega (arith, length-map k.trace row) in
      ap (drop q) record_rows ∙ drop_more rs q [] low
      ∙ ap₂ ◌∷◌ (get_or-map row k.trace q 0 [] h) (ap (drop (q + 1)) (sym record_rows))

  at_end_lem : (q : ℕ) → length k.trace ≤ q → at q ≡ []
  at_end_lem q h = let rs = map row k.trace in ap (drop q) record_rows ∙ drop_all q rs (omega (arith, length-map k.trace row))

  shape : (q : ℕ) (event : Bool) → is_event k q ≡ event → Shape event (at q) (at (q + 1))
  shape q true e = (row (get_or k.trace q 0), at_event q (ltb-true q (length k.trace) e))
  shape q false e = at_end_lem q (ltb-false q (length k.trace) e)

  lettered : (q l : ℕ) → l < letter_count k.rule → (event : Bool) → is_event k q ≡ event → letter_at k q l ≡ letter yes_no l (at q)
  lettered q l low true e =
      let w : ℕ → YesNo = λ n. worth_of yes_no Broken (mark_of k.meaning (get_or k.trace q 0) n) in
      let here : l < length k.numbers = omega (arith, ok.numbered) in
      ap (λ b. cond b (w (get_or k.numbers l 0)) Broken) e
      ∙ sym (get_or-map w k.numbers l 0 Broken here)
      ∙ ap (letter yes_no l) (sym (at_event q (ltb-true q (length k.trace) e)))
  lettered q l low false e =
      ap (λ b. cond b (worth_of yes_no Broken (mark_of k.meaning (get_or k.trace q 0) (get_or k.numbers l 0))) Broken) e
      ∙ ap (letter yes_no l) (sym (at_end_lem q (ltb-false q (length k.trace) e)))

  -- some way is given just where the sign says the value
  pub right_at : (q j : ℕ) (s : Sign) → j < node_count k.rule → given (meant k) (ways_at k q j s) ≡ agree s (meant k q j)
  right_at q j s low =
      let ns = nodes_of k.rule in
      let within : j < length ns = omega (arith, ok.noded) in
      let step = decode_step ns (nodes_ordered k.rule ok.noded) j within in
      right (decode (node_at ns)) at (letter_count k.rule) q j (letter_at k q) (λ l h. lettered q l h (is_event k q) refl) (is_event k q) (shape q (is_event k q) refl) (node_at ns j)
      (nodes_lettered k.rule ok.noded j within) step s
      ∙ ap (λ x. agree s (means yes_no x (at q))) (sym step)

  pub evaluated : Evaluated k
  evaluated old new is =
      let values = laid yes_no Broken k.meaning k.numbers k.trace in
      let same : rows (length k.trace) (letter_count k.rule) new ≡ rows (length k.trace) (letter_count k.rule) values =
      subst (λ n. rows (length k.trace) n new ≡ rows (length k.trace) n values) ok.numbered (rows_written yes_no Broken k.meaning k.numbers k.trace old new is) in
      ap (means yes_no (tree_of_rule k.rule)) same
