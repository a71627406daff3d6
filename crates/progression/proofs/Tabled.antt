-- The truth tables that the code makes. Assumes nothing.
use Rattle.std.proofs.Common.{◌≡◌, ℕ, zero, suc, ◌-◌, ◌<◌, ◌≤◌, Bool, true, false, ◌&&◌, ltb, List, [], get_or, MatchOption, sym, refl, ap, ◌∙◌, not-suc-le-zero, arith}
use Rattle.std.proofs.lemmas.Bool.{lt-ltb, le-ltb, cond-true, cond-false, ltb-true, ltb-false}
use Rattle.std.specs.Bool.{then_some}
use Rattle.rules.specs.Rules.{node_count}
use Rattle.rules.specs.Tree.{decode}
use Rattle.rules.specs.declared.node.Node.{Node}
use Rattle.rules.specs.declared.rule.Rule.{Rule}
use Rattle.verdicts.specs.Meaning.{means}
use Rattle.verdicts.specs.Step.{at, step_row}
use Rattle.verdicts.specs.YesNo.{yes_no}
use Rattle.verdicts.specs.declared.scale.YesNo.{YesNo}
use Rattle.polynomials.specs.Held.{vectors, vectors_of}
use Rattle.polynomials.specs.Polynomial.{value}
use Rattle.polynomials.specs.Sets.{in_set}
use Rattle.polynomials.specs.declared.vectors.VectorSet.{VectorSet}
use Rattle.polynomials.proofs.Valued.{value_variable}
use Rattle.progression.specs.Obligations.{node_of, obligations, number, place}
use Rattle.progression.specs.Progress.{nothing, letters_in, later, poly_within, poly_at, change, is_kept}
use Rattle.progression.specs.Tables.{bools, Tabled}
use Rattle.progression.specs.declared.plan.Plan.{Plan}
use Rattle.progression.proofs.Chosen.{place_lt}
use Rattle.progression.proofs.Decoded.{node_below}
use Rattle.progression.proofs.Valued.{value_nothing, value_poly, row_linked}

-- deep enough is deep enough
pub poly_depth : (r : Rule) (a v d e j : ℕ) → j < d → j < e → j < node_count r → value (poly_within d r a j) v ≡ value (poly_within e r a j) v
unfolding poly_within
poly_depth r a v zero e j p q h = absurd (not-suc-le-zero p)
poly_depth r a v (suc d) zero j p q h = absurd (not-suc-le-zero q)
poly_depth r a v (suc d) (suc e) j p q h =
    let n = node_of r j in
    let next : ℕ → Bool = λ k. value (later r k) v in
    value_poly (letters_in a) (poly_within d r a) (later r) (later r j) v n
    ∙ row_linked bools j (letters_in a) (λ k. value (poly_within d r a k) v) (λ k. value (poly_within e r a k) v) next next (next j) (next j) n (node_below r j h)
    (λ k l. poly_depth r a v d e k (omega arith) (omega arith) (omega arith)) (λ k l _. refl) (λ _. refl)
    ∙ sym (value_poly (letters_in a) (poly_within e r a) (later r) (later r j) v n)

module _ (p : Plan) where
  -- the value after the event of the node that has this number
  number_value : (j v : ℕ) → j < node_count p.rule → v < 256 → in_set (get_or p.numbers j 0) v ≡ value (later p.rule j) v
  number_value j v h l = ap (λ (i : ℕ). in_set i v) (p.numbered j h) ∙ sym (value_variable (number p.rule j) v l)

  -- the node of obligation i, if there are so many
  pub place_is : (i : ℕ) → i < 8 → MatchOption (then_some (ltb i p.count) (get_or p.places i 0)) (obligations p.rule ≤ i) (λ j. (i < obligations p.rule) × (j ≡ place p.rule i) × (j < node_count p.rule))
  place_is i eight = go (ltb i p.count) refl
    where
      go : (b : Bool) → ltb i p.count ≡ b → MatchOption (then_some b (get_or p.places i 0)) (obligations p.rule ≤ i) (λ j. (i < obligations p.rule) × (j ≡ place p.rule i) × (j < node_count p.rule))
      go true e =
          let h : i < p.count = ltb-true i p.count e in
          let low : i < obligations p.rule = omega (arith, p.counted) in
          (low, p.placed i eight low, omega (arith, p.placed i eight low, place_lt p.rule i))
      go false e =
          let h : p.count ≤ i = ltb-false i p.count e in
          omega (arith, p.counted)

  pub root_number : get_or p.numbers (node_count p.rule - 1) 0 ≡ number p.rule (node_count p.rule - 1)
  root_number = p.numbered (node_count p.rule - 1) (omega (arith, p.rule.some))

  -- the table of node j, from those before it
  pub node_more : (a : ℕ) (ts : List VectorSet) (j : ℕ) → j < node_count p.rule → Tabled p.rule a j ts → (n : Node) → n ≡ node_of p.rule j → (x : VectorSet) →
      ((v : ℕ) → v < 256 → vectors x v ≡ step_row bools (letters_in a) (λ k. vectors_of ts k v) (λ k. in_set (get_or p.numbers k 0) v) (in_set (get_or p.numbers j 0) v) n) →
      (v : ℕ) → v < 256 → vectors x v ≡ value (poly_at p.rule a j) v
  unfolding poly_at poly_within
  node_more a ts j h old m same x is v l =
      let r = p.rule in
      let n = node_of r j in
      is v l
      ∙ ap (step_row bools (letters_in a) (λ k. vectors_of ts k v) (λ k. in_set (get_or p.numbers k 0) v) (in_set (get_or p.numbers j 0) v)) same
      ∙ row_linked bools j (letters_in a) (λ k. vectors_of ts k v) (λ k. value (poly_within j r a k) v) (λ k. in_set (get_or p.numbers k 0) v) (λ k. value (later r k) v)
      (in_set (get_or p.numbers j 0) v) (value (later r j) v) n (node_below r j h)
      (λ k m. old k m v l ∙ poly_depth r a v (suc k) j k (omega arith) m (omega arith))
      (λ k m _. number_value k v (omega arith) l)
      (λ _. number_value j v h l)
      ∙ sym (value_poly (letters_in a) (poly_within j r a) (later r) (later r j) v n)

-- ---- obligation i, where its node is j or where there are not so many

module _ (r : Rule) (i j : ℕ) (low : i < obligations r) (is : j ≡ place r i) where
  pub change_within : (a : ℕ) (ts : List VectorSet) → Tabled r a (node_count r) ts → (v : ℕ) → v < 256 → vectors_of ts j v ≡ value (change r a i) v
  unfolding change
  change_within a ts tabled v l =
      ap (λ (k : ℕ). vectors_of ts k v) is
      ∙ tabled (place r i) (place_lt r i) v l
      ∙ ap (λ P. value P v) (sym (cond-true (ltb i (obligations r)) (poly_at r a (place r i)) nothing (lt-ltb i (obligations r) low)))

  pub end_within : (ends : List YesNo) → ((k : ℕ) → k < node_count r → at yes_no ends k ≡ means yes_no (decode (node_of r) k) []) →
      is_kept (at yes_no ends j) ≡ (ltb i (obligations r) && is_kept (means yes_no (decode (node_of r) (place r i)) []))
  end_within ends ended =
      ap (λ (k : ℕ). is_kept (at yes_no ends k)) is
      ∙ ap is_kept (ended (place r i) (place_lt r i))
      ∙ ap (λ (b : Bool). b && is_kept (means yes_no (decode (node_of r) (place r i)) [])) (sym (lt-ltb i (obligations r) low))

module _ (r : Rule) (i : ℕ) (far : obligations r ≤ i) where
  pub change_past : (a : ℕ) (x : VectorSet) → ((v : ℕ) → vectors x v ≡ false) → (v : ℕ) → v < 256 → vectors x v ≡ value (change r a i) v
  unfolding change
  change_past a x is v l =
      is v ∙ sym (value_nothing v)
      ∙ ap (λ P. value P v) (sym (cond-false (ltb i (obligations r)) (poly_at r a (place r i)) nothing (le-ltb i (obligations r) far)))

  pub end_past : (b : Bool) → false ≡ (ltb i (obligations r) && b)
  end_past b = ap (λ (x : Bool). x && b) (sym (le-ltb i (obligations r) far))
