-- The residual is exact: its value at the vector of a rest is the rule's verdict on the events and the rest. Assumes nothing.
use Rattle.std.proofs.Common.{◌≡◌, ℕ, zero, suc, ◌-◌, ◌<◌, ◌≤◌, Bool, true, false, cond, ◌&&◌, ltb, leb, List, [], ◌∷◌, ◌++◌, map, get_or, sym, refl, ap, ◌∙◌, ap₂, ⊎_elim, not-suc-le-zero, arith}
use Rattle.std.proofs.lemmas.Bool.{lt-ltb, leb-true, le-leb, cases_Bool, cond-true, cond-false}
use Rattle.rules.specs.Rules.{node_count, tree_of_rule}
use Rattle.rules.specs.Tree.{tree_of, decode}
use Rattle.rules.specs.declared.node.Node.{Node}
use Rattle.rules.specs.declared.rule.Rule.{Rule}
use Rattle.verdicts.specs.Meaning.{constant, means}
use Rattle.verdicts.specs.Scale.{Ops}
use Rattle.verdicts.specs.Step.{at, step_row}
use Rattle.verdicts.specs.YesNo.{yes_no}
use Rattle.verdicts.specs.declared.scale.YesNo.{YesNo}
use Rattle.verdicts.proofs.Laws.{yes_no_laws}
use Rattle.verdicts.proofs.Lift.{means_row}
use Rattle.polynomials.specs.Polynomial.{Polynomial, variable, substitute, value, step}
use Rattle.polynomials.specs.Sets.{bit_at, set_below}
use Rattle.polynomials.proofs.Digits.{set_lt, bit_set, set_cong}
use Rattle.polynomials.proofs.Valued.{value_variable, value_substitute}
use Rattle.reachable.specs.Reach as reach
use Rattle.progression.specs.Obligations.{node_of, is_obligation, obligations, place}
use Rattle.progression.specs.Progress.{nothing, letters_in, later, poly_within, poly_at, change, fresh, carry, residual, is_kept, at_end, moves_of}
use Rattle.progression.proofs.Chosen.{root_is, lasting_is, looked_is, index_of, number_is, index_lt, place_of, place_lt}
use Rattle.progression.proofs.Decoded.{node_below, node_tree}
use Rattle.progression.proofs.Valued.{said, value_nothing, value_poly, row_said, row_linked}

-- ---- bits and verdicts

pub kept_said : (b : Bool) → is_kept (said b) ≡ b
kept_said true = refl
kept_said false = refl

pub said_kept : (v : YesNo) → said (is_kept v) ≡ v
said_kept YesNo.Broken = refl
said_kept YesNo.Kept = refl

letters_same : {V : Type 0} (o : Ops V) (f g here next : ℕ → V) (own : V) (n : Node) → ((l : ℕ) → f l ≡ g l) →
    step_row o f here next own n ≡ step_row o g here next own n
letters_same o f g here next own (Node.Letter l) same = same l
letters_same o f g here next own (Node.Truth v) same = refl
letters_same o f g here next own (Node.Before u a) same = refl
letters_same o f g here next own (Node.Between b x y) same = refl

-- ---- one event more

pub carry_more : (r : Rule) (R : Polynomial) (es : List ℕ) (a : ℕ) → carry r R (es ++ a ∷ []) ≡ substitute (carry r R es) (change r a)
carry_more r R [] a = refl
carry_more r R (e ∷ es) a = carry_more r (substitute R (change r e)) es a

pub residual_more : (r : Rule) (es : List ℕ) (a : ℕ) → residual r (es ++ a ∷ []) ≡ substitute (residual r es) (change r a)
residual_more r es a = carry_more r (fresh r) es a

-- ---- the vectors are numbers below 256

pub vec_lt : (r : Rule) (possible : ℕ → Bool) (w : List ℕ) → reach.vec (moves_of r possible) w < 256
unfolding at_end step
vec_lt r possible [] = set_lt 8 _
vec_lt r possible (a ∷ w) = set_lt 8 _

-- ---- the constant 0 stays what it is

carry_nothing : (r : Rule) (R : Polynomial) → ((v : ℕ) → value R v ≡ false) → (es : List ℕ) (v : ℕ) → value (carry r R es) v ≡ false
carry_nothing r R none [] v = none v
carry_nothing r R none (a ∷ es) v =
    carry_nothing r (substitute R (change r a)) (λ u. value_substitute R (change r a) u ∙ none (step (change r a) u)) es v

picked : (b x : Bool) (P : Polynomial) (v : ℕ) → value P v ≡ x → (b && x) ≡ value (cond b P nothing) v
picked true x P v e = sym e
picked false x P v e = sym (value_nothing v)

-- the letters of an event c are those of its row, and have the number `set c`
module _ (r : Rule) (row : ℕ → List YesNo) (set : ℕ → ℕ) (link : (c l : ℕ) → get_or (row c) l YesNo.Broken ≡ constant yes_no (bit_at l (set c))) where
  -- the values that the obligations have on a rest of events
  unfoldable pub vec : List ℕ → ℕ
  vec w = set_below 8 (λ i. ltb i (obligations r) && is_kept (means yes_no (decode (node_of r) (place r i)) (map row w)))

  below_256 : (w : List ℕ) → vec w < 256
  unfolding vec
  below_256 w = set_lt 8 _

  module _ (few : obligations r ≤ 8) where
    -- the value of an obligation
    obligation_means : (w : List ℕ) (j : ℕ) → j < node_count r → is_obligation r j ≡ true →
        value (later r j) (vec w) ≡ is_kept (means yes_no (decode (node_of r) j) (map row w))
    unfolding vec
    obligation_means w j h e =
        let i = index_of r j in
        let low : i < obligations r = index_lt r j h e in
        let f : ℕ → Bool = λ k. is_kept (means yes_no (decode (node_of r) k) (map row w)) in
        ap (λ (k : ℕ). value (variable k) (vec w)) (number_is r j)
        ∙ value_variable (suc i) (vec w) (below_256 w)
        ∙ bit_set 8 i (λ k. ltb k (obligations r) && f (place r k)) (omega arith)
        ∙ ap₂ ◌&&◌ (lt-ltb i (obligations r) low) (ap f (place_of r j h e))

    obligation_said : (w : List ℕ) (j : ℕ) → j < node_count r → is_obligation r j ≡ true →
        said (value (later r j) (vec w)) ≡ means yes_no (decode (node_of r) j) (map row w)
    obligation_said w j h e = ap said (obligation_means w j h e) ∙ said_kept (means yes_no (decode (node_of r) j) (map row w))

    -- the polynomial of a node at an event has, at the vector of the rest, the node's value on the event and the rest
    pub part_means : (c : ℕ) (w : List ℕ) (d j : ℕ) → j < d → j < node_count r →
        constant yes_no (value (poly_within d r (set c) j) (vec w)) ≡ means yes_no (decode (node_of r) j) (map row (c ∷ w))
    unfolding poly_within
    part_means c w zero j p h = absurd (not-suc-le-zero p)
    part_means c w (suc d) j p h =
        let v = vec w in
        let n = node_of r j in
        let tree = decode (node_of r) in
        let s = map row w in
        let here : ℕ → Bool = λ a. value (poly_within d r (set c) a) v in
        let next : ℕ → Bool = λ a. value (later r a) v in
        let own : Bool = value (later r j) v in
        ap said (value_poly (letters_in (set c)) (poly_within d r (set c)) (later r) (later r j) v n)
        ∙ row_said (letters_in (set c)) here next own n
        ∙ letters_same yes_no (λ l. said (letters_in (set c) l)) (at yes_no (row c)) (λ a. said (here a)) (λ a. said (next a)) (said own) n (λ l. sym (link c l))
        ∙ row_linked yes_no j (at yes_no (row c)) (λ a. said (here a)) (λ a. means yes_no (tree a) (row c ∷ s)) (λ a. said (next a)) (λ a. means yes_no (tree a) s)
        (said own) (means yes_no (tree_of tree n) s) n (node_below r j h)
        (λ a l. part_means c w d a (omega arith) (omega arith))
        (λ a l e. obligation_said w a (omega arith) (looked_is r j a h e))
        (λ e. obligation_said w j h (lasting_is r j e) ∙ ap (λ t. means yes_no t s) (node_tree r j))
        ∙ sym (means_row yes_no yes_no_laws tree (row c) s n)
        ∙ sym (ap (λ t. means yes_no t (row c ∷ s)) (node_tree r j))

    -- an event before a rest
    pub vec_cons : (c : ℕ) (w : List ℕ) → vec (c ∷ w) ≡ step (change r (set c)) (vec w)
    unfolding step change poly_at vec
    vec_cons c w =
        let f : ℕ → Bool = λ j. is_kept (means yes_no (decode (node_of r) j) (map row (c ∷ w))) in
        set_cong 8 (λ i. ltb i (obligations r) && f (place r i)) (λ i. value (change r (set c) i) (vec w))
        (λ i h. picked (ltb i (obligations r)) (f (place r i)) (poly_at r (set c) (place r i)) (vec w)
        (sym (kept_said (value (poly_at r (set c) (place r i)) (vec w)))
        ∙ ap is_kept (part_means c w (suc (place r i)) (place r i) (omega arith) (place_lt r i))))

    carried : (R : Polynomial) (es w : List ℕ) → value (carry r R (map set es)) (vec w) ≡ value R (vec (es ++ w))
    carried R [] w = refl
    carried R (e ∷ es) w =
        carried (substitute R (change r (set e))) es w
        ∙ value_substitute R (change r (set e)) (vec (es ++ w))
        ∙ ap (value R) (sym (vec_cons e (es ++ w)))

    fresh_means : (w : List ℕ) → value (fresh r) (vec w) ≡ is_kept (means yes_no (tree_of_rule r) (map row w))
    unfolding fresh
    fresh_means w =
        ap (λ P. value P (vec w)) (cond-true (leb (obligations r) 8) (later r (node_count r - 1)) nothing (le-leb (obligations r) 8 few))
        ∙ obligation_means w (node_count r - 1) (omega (arith, r.some)) (root_is r)

    pub progression : (es w : List ℕ) → is_kept (means yes_no (tree_of_rule r) (map row (es ++ w))) ≡ value (residual r (map set es)) (vec w)
    progression es w = sym (carried (fresh r) es w ∙ fresh_means (es ++ w))

    -- the vectors of the moves are those of the rests
    moves_vec : (possible : ℕ → Bool) (w : List ℕ) → reach.vec (moves_of r possible) (map set w) ≡ vec w
    unfolding vec at_end
    moves_vec possible [] = refl
    moves_vec possible (c ∷ w) = ap (step (change r (set c))) (moves_vec possible w) ∙ sym (vec_cons c w)

  -- a rule with more than eight obligations is never said to be kept
  fresh_nothing : leb (obligations r) 8 ≡ false → (v : ℕ) → value (fresh r) v ≡ false
  unfolding fresh
  fresh_nothing many v =
      ap (λ P. value P v) (cond-false (leb (obligations r) 8) (later r (node_count r - 1)) nothing many) ∙ value_nothing v

  -- WHAT THE RESIDUAL SAYS: its value at the vector of a rest is the verdict on the events and the rest
  pub rest_value : (possible : ℕ → Bool) (es w : List ℕ) →
      value (residual r (map set es)) (reach.vec (moves_of r possible) (map set w)) ≡ is_kept (cond (leb (obligations r) 8) (means yes_no (tree_of_rule r) (map row (es ++ w))) YesNo.Broken)
  rest_value possible es w =
      let R = residual r (map set es) in
      let v = reach.vec (moves_of r possible) (map set w) in
      let verdict = means yes_no (tree_of_rule r) (map row (es ++ w)) in
      ⊎_elim
      (λ (e : leb (obligations r) 8 ≡ true). let few : obligations r ≤ 8 = leb-true (obligations r) 8 e in
      ap (value R) (moves_vec few possible w)
      ∙ sym (progression few es w)
      ∙ ap is_kept (sym (cond-true (leb (obligations r) 8) verdict YesNo.Broken e)))
      (λ (e : leb (obligations r) 8 ≡ false).
      carry_nothing r (fresh r) (fresh_nothing e) (map set es) v
      ∙ ap is_kept (sym (cond-false (leb (obligations r) 8) verdict YesNo.Broken e)))
      (cases_Bool (leb (obligations r) 8))
