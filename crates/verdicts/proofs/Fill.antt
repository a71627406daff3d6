-- The loop over the places, from the last to the first. Assumes nothing.
use Rattle.std.proofs.Common.{◌≡◌, ℕ, suc, ◌+◌, ◌*◌, ◌<◌, ◌≤◌, List, [], ◌∷◌, ◌++◌, length, take, drop, sym, refl, ap, ◌∙◌, subst, mul-le-mul_right, suc-mul, arith, drop-drop}
use Rattle.std.proofs.Math.Seq.{drop-append_seam}
use Rattle.std.proofs.lemmas.List.{get_or_append_left, get_or-append-add}
use Rattle.rules.specs.declared.node.Node.{Node}
use Rattle.verdicts.specs.Scale.{Ops}
use Rattle.verdicts.specs.Meaning.{rows}
use Rattle.verdicts.specs.Step.{at, Valued}
use Rattle.verdicts.specs.Outcome.{Filled}
use Rattle.verdicts.proofs.Lift.{rows_at, rows_past}

-- the two rows of m values where p of n events are left to go through; the second was `start` before the first event
pub record Going {V : Type 0} (o : Ops V) (ns : List Node) (m n p : ℕ) (rs : List (List V)) (start here next : List V) : Type 0 where
  pub low : p ≤ n
  pub first : Valued o ns here (drop p rs) m
  pub second : p < n → Valued o ns next (drop (p + 1) rs) m
  pub alone : p ≡ n → next ≡ start

module _ {V : Type 0} (o : Ops V) (ns : List Node) (m k n : ℕ) (xs : List V) where
  -- nothing gone through: the values past the last event
  pub going_none : (here start : List V) → Valued o ns here [] m → Going o ns m n n (rows n k xs) start here start
  going_none here start is = record {
    low = omega arith;
    first = subst (λ ys. Valued o ns here ys m) (sym (rows_past n k xs)) is;
    second = λ l. absurd (omega arith);
    alone = λ _. refl;
  }

  -- one event: the first row becomes the second, and is made anew
  pub going_more : (p q : ℕ) (letters start here next now : List V) → q + 1 ≡ p → letters ≡ take k (drop (q * k) xs) → Going o ns m n p (rows n k xs) start here next →
      Valued o ns now (letters ∷ drop p (rows n k xs)) m → Going o ns m n q (rows n k xs) start now here
  going_more p q letters start here next now e f is values =
      let rs = rows n k xs in
      let low : q < n = omega (arith, is.low) in
      let row : letters ∷ drop p rs ≡ drop q rs = ap (λ ls. ls ∷ drop p rs) f ∙ ap (λ i. take k (drop (q * k) xs) ∷ drop i rs) (sym e) ∙ sym (rows_at n q k xs low) in
      record {
        low = omega arith;
        first = subst (λ ys. Valued o ns now ys m) row values;
        second = λ _. subst (λ i. Valued o ns here (drop i rs) m) (sym e) is.first;
        alone = λ z. absurd (omega arith);
      }

  -- both rows stand in a scratch, in front of what is left as it was
  pub going_all : (p : ℕ) (before start here next rest : List V) → p ≤ 0 → length before ≡ m → length start ≡ m → length here ≡ m → length next ≡ m →
      Going o ns m n p (rows n k xs) start here next → Filled o ns m n (rows n k xs) (before ++ (start ++ rest)) (here ++ (next ++ rest))
  going_all p before start here next rest low b s h x is =
      let z : p ≡ 0 = omega arith in
      let past : (a c : List V) → length a ≡ m → drop m (a ++ c) ≡ c = λ a c e. subst (λ i. drop i (a ++ c) ≡ c) e (drop-append_seam a c) in
      let twice : (a c : List V) → length a ≡ m → length c ≡ m → drop (2 * m) (a ++ (c ++ rest)) ≡ rest =
      λ a c e f. ap (λ i. drop i (a ++ (c ++ rest))) (omega arith) ∙ sym (drop-drop m m (a ++ (c ++ rest))) ∙ ap (drop m) (past a (c ++ rest) e) ∙ past c rest f in
      record {
        here = λ j l. get_or_append_left here (next ++ rest) o.bottom j (omega arith) ∙ subst (λ i. Valued o ns here (drop i (rows n k xs)) m) z is.first j l;
        next = λ l j w. ap (λ i. at o (here ++ (next ++ rest)) (i + j)) (sym h) ∙ get_or-append-add here (next ++ rest) j o.bottom ∙ get_or_append_left next rest o.bottom j (omega arith)
            ∙ subst (λ i. Valued o ns next (drop (i + 1) (rows n k xs)) m) z (is.second (omega arith)) j w;
        alone = λ w. past here (next ++ rest) h ∙ ap (λ c. c ++ rest) (is.alone (omega arith)) ∙ sym (past before (start ++ rest) b);
        rest = twice here next h x ∙ sym (twice before start b s);
      }

-- row q of n rows of k lies within c
pub row_within : (n k q c : ℕ) → q < n → n * k ≤ c → q * k + k ≤ c
row_within n k q c low fits = let up : suc q * k ≤ n * k = mul-le-mul_right k low in omega (arith, suc-mul q k)
