-- Each operator: the value of its polynomial is its value at an event, and that rests on the obligations alone. Assumes nothing.
use Rattle.std.proofs.Common.{◌≡◌, ℕ, ◌<◌, Bool, true, false, not, ◌&&◌, ◌||◌, refl, ◌∙◌, ap₂}
use Rattle.std.proofs.lemmas.Bool.{eq-eqb}
use Rattle.rules.specs.declared.node.Unary.{Unary}
use Rattle.rules.specs.declared.node.Binary.{Binary}
use Rattle.rules.specs.declared.node.Node.{Node}
use Rattle.verdicts.specs.Meaning.{constant}
use Rattle.verdicts.specs.Scale.{Ops}
use Rattle.verdicts.specs.Step.{Below, unary_row, binary_row, step_row}
use Rattle.verdicts.specs.YesNo.{yes_no}
use Rattle.verdicts.specs.declared.scale.YesNo.{YesNo}
use Rattle.polynomials.specs.Polynomial.{Polynomial, one, sum, product, value}
use Rattle.polynomials.specs.Sets.{◌⊕◌}
use Rattle.polynomials.proofs.Valued.{value_one, value_sum, value_product}
use Rattle.polynomials.proofs.Values.{in_nothing}
use Rattle.progression.specs.Obligations.{unary_lasts, binary_lasts, unary_looks, lasts, looks_at}
use Rattle.progression.specs.Progress.{nothing, known, unary_poly, binary_poly, node_poly}
use Rattle.progression.specs.Tables.{bools}

pub value_nothing : (v : ℕ) → value nothing v ≡ false
unfolding nothing
value_nothing v = in_nothing 8 v

value_known : (b : Bool) (v : ℕ) → value (known b) v ≡ b
value_known true v = value_one v
value_known false v = value_nothing v

or_sum : (x y : Bool) → ((x ⊕ y) ⊕ (x && y)) ≡ (x || y)
or_sum true true = refl
or_sum true false = refl
or_sum false true = refl
or_sum false false = refl

implies_sum : (x y : Bool) → ((true ⊕ x) ⊕ (x && y)) ≡ (not x || y)
implies_sum true true = refl
implies_sum true false = refl
implies_sum false true = refl
implies_sum false false = refl

xor_sum : (x y : Bool) → (x ⊕ y) ≡ ((x && not y) || (not x && y))
xor_sum true true = refl
xor_sum true false = refl
xor_sum false true = refl
xor_sum false false = refl

iff_sum : (x y : Bool) → ((true ⊕ x) ⊕ y) ≡ ((x && y) || (not x && not y))
iff_sum true true = refl
iff_sum true false = refl
iff_sum false true = refl
iff_sum false false = refl

until_sum : (x y e : Bool) → ((y ⊕ (x && e)) ⊕ ((x && y) && e)) ≡ (y || (x && e))
until_sum true true true = refl
until_sum true true false = refl
until_sum true false true = refl
until_sum true false false = refl
until_sum false true e = refl
until_sum false false e = refl

-- the sum and the product of two whose values are known
plus : (P Q : Polynomial) (v : ℕ) (x y : Bool) → value P v ≡ x → value Q v ≡ y → value (sum P Q) v ≡ (x ⊕ y)
plus P Q v x y p q = value_sum P Q v ∙ ap₂ ◌⊕◌ p q

times : (P Q : Polynomial) (v : ℕ) (x y : Bool) → value P v ≡ x → value Q v ≡ y → value (product P Q) v ≡ (x && y)
times P Q v x y p q = value_product P Q v ∙ ap₂ ◌&&◌ p q

other : (P : Polynomial) (v : ℕ) → value (sum one P) v ≡ (true ⊕ value P v)
other P v = plus one P v true (value P v) (value_one v) refl

either : (P Q : Polynomial) (v : ℕ) → value (sum (sum P Q) (product P Q)) v ≡ (value P v || value Q v)
either P Q v = plus (sum P Q) (product P Q) v _ _ (value_sum P Q v) (value_product P Q v) ∙ or_sum (value P v) (value Q v)

unary_value : (u : Unary) (x next own : Polynomial) (v : ℕ) → value (unary_poly u x next own) v ≡ unary_row bools u (value x v) (value next v) (value own v)
unary_value Unary.Not x next own v = other x v
unary_value Unary.Always x next own v = value_product x own v
unary_value Unary.Eventually x next own v = either x own v
unary_value Unary.Next x next own v = refl

binary_value : (b : Binary) (x y own : Polynomial) (v : ℕ) → value (binary_poly b x y own) v ≡ binary_row bools b (value x v) (value y v) (value own v)
binary_value Binary.Until x y own v =
    plus (sum y (product x own)) (product (product x y) own) v _ _
    (plus y (product x own) v _ _ refl (value_product x own v))
    (times (product x y) own v _ _ (value_product x y v) refl)
    ∙ until_sum (value x v) (value y v) (value own v)
binary_value Binary.And x y own v = value_product x y v
binary_value Binary.Xor x y own v = value_sum x y v ∙ xor_sum (value x v) (value y v)
binary_value Binary.Or x y own v = either x y v
binary_value Binary.Implies x y own v =
    plus (sum one x) (product x y) v _ _ (other x v) (value_product x y v) ∙ implies_sum (value x v) (value y v)
binary_value Binary.Iff x y own v = plus (sum one x) y v _ _ (other x v) refl ∙ iff_sum (value x v) (value y v)

-- the value of a node's polynomial, from those of the nodes before it
pub value_poly : (letters : ℕ → Bool) (here next : ℕ → Polynomial) (own : Polynomial) (v : ℕ) (n : Node) →
    value (node_poly letters here next own n) v ≡ step_row bools letters (λ a. value (here a) v) (λ a. value (next a) v) (value own v) n
value_poly letters here next own v (Node.Letter l) = value_known (letters l) v
value_poly letters here next own v (Node.Truth true) = value_known true v
value_poly letters here next own v (Node.Truth false) = value_known false v
value_poly letters here next own v (Node.Before u a) = unary_value u (here a) (next a) own v
value_poly letters here next own v (Node.Between b x y) = binary_value b (here x) (here y) own v

-- a bit as a verdict
abbrev pub said : Bool → YesNo
said = constant yes_no

unary_said : (u : Unary) (x next own : Bool) → said (unary_row bools u x next own) ≡ unary_row yes_no u (said x) (said next) (said own)
unary_said Unary.Not true next own = refl
unary_said Unary.Not false next own = refl
unary_said Unary.Always true next own = refl
unary_said Unary.Always false next own = refl
unary_said Unary.Eventually true next own = refl
unary_said Unary.Eventually false next own = refl
unary_said Unary.Next x next own = refl

binary_said : (b : Binary) (x y own : Bool) → said (binary_row bools b x y own) ≡ binary_row yes_no b (said x) (said y) (said own)
binary_said Binary.Until true true own = refl
binary_said Binary.Until true false own = refl
binary_said Binary.Until false true own = refl
binary_said Binary.Until false false own = refl
binary_said Binary.And true y own = refl
binary_said Binary.And false y own = refl
binary_said Binary.Xor true true own = refl
binary_said Binary.Xor true false own = refl
binary_said Binary.Xor false true own = refl
binary_said Binary.Xor false false own = refl
binary_said Binary.Or true y own = refl
binary_said Binary.Or false y own = refl
binary_said Binary.Implies true y own = refl
binary_said Binary.Implies false y own = refl
binary_said Binary.Iff true true own = refl
binary_said Binary.Iff true false own = refl
binary_said Binary.Iff false true own = refl
binary_said Binary.Iff false false own = refl

-- a node on bits is the node on verdicts
pub row_said : (letters here next : ℕ → Bool) (own : Bool) (n : Node) →
    said (step_row bools letters here next own n) ≡ step_row yes_no (λ l. said (letters l)) (λ a. said (here a)) (λ a. said (next a)) (said own) n
row_said letters here next own (Node.Letter l) = refl
row_said letters here next own (Node.Truth true) = refl
row_said letters here next own (Node.Truth false) = refl
row_said letters here next own (Node.Before u a) = unary_said u (here a) (next a) own
row_said letters here next own (Node.Between b x y) = binary_said b (here x) (here y) own

module _ {V : Type 0} (o : Ops V) where
  unary_linked : (u : Unary) (x y next next' own own' : V) → x ≡ y → (unary_looks u ≡ true → next ≡ next') → (unary_lasts u ≡ true → own ≡ own') →
      unary_row o u x next own ≡ unary_row o u y next' own'
  unary_linked Unary.Not x y next next' own own' e en eo = cc
  unary_linked Unary.Always x y next next' own own' e en eo = cc (eo refl)
  unary_linked Unary.Eventually x y next next' own own' e en eo = cc (eo refl)
  unary_linked Unary.Next x y next next' own own' e en eo = en refl

  binary_linked : (b : Binary) (x x' y y' own own' : V) → x ≡ x' → y ≡ y' → (binary_lasts b ≡ true → own ≡ own') →
      binary_row o b x y own ≡ binary_row o b x' y' own'
  binary_linked Binary.Until x x' y y' own own' e f eo = cc (eo refl)
  binary_linked Binary.And x x' y y' own own' e f eo = cc
  binary_linked Binary.Xor x x' y y' own own' e f eo = cc
  binary_linked Binary.Or x x' y y' own own' e f eo = cc
  binary_linked Binary.Implies x x' y y' own own' e f eo = cc
  binary_linked Binary.Iff x x' y y' own own' e f eo = cc

  -- what a node takes from after the event is the same: its own value if it lasts, and its operand's if it looks at that
  pub row_linked : (i : ℕ) (letters h h' x x' : ℕ → V) (w w' : V) (n : Node) → Below i n → ((a : ℕ) → a < i → h a ≡ h' a) →
      ((a : ℕ) → a < i → looks_at a n ≡ true → x a ≡ x' a) → (lasts n ≡ true → w ≡ w') → step_row o letters h x w n ≡ step_row o letters h' x' w' n
  row_linked i letters h h' x x' w w' (Node.Letter l) low e ex ew = refl
  row_linked i letters h h' x x' w w' (Node.Truth v) low e ex ew = refl
  row_linked i letters h h' x x' w w' (Node.Before u a) low e ex ew =
      unary_linked u (h a) (h' a) (x a) (x' a) w w' (e a low) (λ k. ex a low (ap₂ ◌&&◌ k (eq-eqb a a refl))) ew
  row_linked i letters h h' x x' w w' (Node.Between b p q) low e ex ew = binary_linked b (h p) (h' p) (h q) (h' q) w w' (e p low.0) (e q low.1) ew
