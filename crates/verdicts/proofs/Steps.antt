-- What a step rests on, and a loop of steps. Assumes nothing.
use Rattle.std.proofs.Common.{◌≡◌, ℕ, ◌+◌, ◌<◌, ◌≤◌, ◌≢◌, List, length, set, refl, ◌∙◌, arith, get_or-set_other, get_or-set_same, below_more}
use Rattle.rules.specs.Tree.{decode, node_at}
use Rattle.rules.specs.declared.node.Node.{Node}
use Rattle.verdicts.specs.Scale.{Ops}
use Rattle.verdicts.specs.Meaning.{means}
use Rattle.verdicts.specs.Step.{Below, step_end, step_row, at, Valued}

pub below_up : (i j : ℕ) (n : Node) → i ≤ j → Below i n → Below j n
below_up i j (Node.Letter l) up h = tt
below_up i j (Node.Truth v) up h = tt
below_up i j (Node.Before u a) up h = omega arith
below_up i j (Node.Between b x y) up h = omega arith

module _ {V : Type 0} (o : Ops V) where
  -- a step reads no value of a node at or past i
  pub end_same : (i : ℕ) (h h' : ℕ → V) (n : Node) → Below i n → ((a : ℕ) → a < i → h a ≡ h' a) → step_end o h n ≡ step_end o h' n
  end_same i h h' (Node.Letter l) low e = refl
  end_same i h h' (Node.Truth v) low e = refl
  end_same i h h' (Node.Before u a) low e = cc (e a low)
  end_same i h h' (Node.Between b x y) low e = cc (e x low.0, e y low.1)

  pub row_same : (i : ℕ) (letters h h' x x' : ℕ → V) (w w' : V) (n : Node) → Below i n →
      ((a : ℕ) → a < i → h a ≡ h' a) → ((a : ℕ) → a < i → x a ≡ x' a) → w ≡ w' →
      step_row o letters h x w n ≡ step_row o letters h' x' w' n
  row_same i letters h h' x x' w w' (Node.Letter l) low e ex ew = refl
  row_same i letters h h' x x' w w' (Node.Truth v) low e ex ew = refl
  row_same i letters h h' x x' w w' (Node.Before u a) low e ex ew = cc (e a low, ex a low, ew)
  row_same i letters h h' x x' w w' (Node.Between b p q) low e ex ew = cc (e p low.0, e q low.1, ew)

  -- one node more
  pub valued_more : (ns : List Node) (row : List V) (rs : List (List V)) (i : ℕ) (v : V) → i < length row → v ≡ means o (decode (node_at ns) i) rs →
      Valued o ns row rs i → Valued o ns (set row i v) rs (i + 1)
  valued_more ns row rs i v within is old =
      below_more (λ j. at o (set row i v) j ≡ means o (decode (node_at ns) j) rs) i
      (λ j h. let ne : j ≢ i = omega arith in get_or-set_other row i j v o.bottom ne ∙ old j h)
      (get_or-set_same row i v o.bottom within ∙ is)
