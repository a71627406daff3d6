-- Numbers in decimals, and two of them that a tab parts. Assumes nothing.
use Rattle.std.proofs.Common.{◌≡◌, ℕ, suc, ◌+◌, ◌<◌, ◌≤◌, false, ◌&&◌, eqb, ltb, List, [], ◌∷◌, ◌++◌, length, get_or, take, drop, Ok, decimal, Some, None, Result, Err, MatchResult, sym, refl, ap, ◌∙◌, subst, ap₂, ⊎_elim, arith}
use Rattle.std.specs.Str.Parse.{AllDigits, digits_value, ParsesUnsigned}
use Rattle.std.proofs.lemmas.Fmt.{decimal-digits_value, digits_decimal, first_decimal, length-decimal-le, parse-decimal}
use Rattle.std.proofs.lemmas.List.{drop_at, drop-drop, length-append, take_at}
use Rattle.std.proofs.lemmas.Str.Parse.{IsNumeralModel, digit_from_value, numerals_by_value, parse_plain, tells_digits}
use Rattle.std.proofs.lemmas.Result.{OkIff-at_ok}
use Rattle.std.proofs.lemmas.Bool.{and_cases, and_left, and_right, cases_lt, cond-false, eqb-false, le-ltb, ltb-false, ne_eqb, or_from, or_parts}
use Rattle.std.specs.Result.{result_ok}
use Rattle.files.specs.Event.{ReadsByte, spoiled}
use Rattle.files.specs.Lines.{before}

own : IsNumeralModel (AllDigits 10) (digits_value 10)
own = numerals_by_value (AllDigits 10) tells_digits

-- a zero in front is the number 0 itself
zero_alone : (n c : ℕ) (cs : List ℕ) → n < 256 → c ∷ cs ≡ decimal n → (eqb c 48 && ltb 0 (length cs)) ≡ false
zero_alone n c cs small e =
    ⊎_elim
    (λ (h : 0 < n). and_left _ _ (ne_eqb c 48 (λ q. omega (arith, first_decimal n h (omega arith), ap (λ l. get_or l 0 0) e))))
    (λ (h : n ≤ 0). and_right _ _ (le-ltb 0 (length cs) (omega (arith, length-decimal-le 1 n (omega arith) (omega arith) (omega arith), ap length e))))
    (cases_lt 0 n)

-- no number is written so
pub unspoiled : (t : List ℕ) (n : ℕ) → n < 256 → t ≡ decimal n → spoiled t ≡ false
unspoiled [] n small e = refl
unspoiled (c ∷ cs) n small e =
    let digits = subst (AllDigits 10) (sym e) (digits_decimal own n (omega arith)) in
    let digit = digit_from_value c digits.0 in
    or_from _ _ (ne_eqb c 43 (λ q. omega arith)) (zero_alone n c cs small e)

no_plus : (t : List ℕ) → spoiled t ≡ false → get_or t 0 0 ≡ 43 → ⊥
no_plus [] e q = omega arith
no_plus (c ∷ cs) e q = eqb-false c 43 (or_parts _ _ e).0 q

alone : (t : List ℕ) → spoiled t ≡ false → get_or t 0 0 ≡ 48 → length t ≡ 1
alone [] e q = omega arith
alone (c ∷ cs) e q =
    ⊎_elim (λ (h : eqb c 48 ≡ false). absurd (eqb-false c 48 h q)) (λ (h : ltb 0 (length cs) ≡ false). omega (arith, ltb-false 0 (length cs) h)) (and_cases _ _ (or_parts (eqb c 43) _ e).1)

-- what `parse` reads of a text that is not spoiled is written so
pub plain_read : {E : Type 0} (t : List ℕ) (r : Result ℕ E) (x : ℕ) → spoiled t ≡ false → ParsesUnsigned 8 10 t r → r ≡ Ok x → (x < 256) × (t ≡ decimal x)
plain_read t r x fine reads is =
    let k = OkIff-at_ok r _ _ x (parse_plain own 8 t r reads (no_plus t fine)) is in
    let small : digits_value 10 t < 256 = k.0.2 in
    let back = decimal-digits_value own t k.0.0 k.0.1 (alone t fine) (omega arith) in
    (omega (arith, k.1), sym back ∙ ap decimal (sym k.1))

-- what holds of a result that `ok` takes, and of one that it drops
module _ {A E : Type 0} (P : A → Type 0) (Q : E → Type 0) where
  pub taken : (r : Result A E) (x : A) → MatchResult r P Q → result_ok r ≡ Some x → P x
  taken (Ok y) x h e = let k : y ≡ x = cc in subst P k h
  taken (Err f) x h e = absurd cc

  pub dropped : (r : Result A E) → MatchResult r P Q → result_ok r ≡ None → (f : E) × Q f
  dropped (Ok y) h e = absurd cc
  dropped (Err f) h e = (f, h)

-- what is read of it is the number that it writes
pub plain_byte : {E : Type 0} (t : List ℕ) (r : Result ℕ E) → spoiled t ≡ false → ParsesUnsigned 8 10 t r → ReadsByte t (result_ok r)
plain_byte {E} t (Ok x) fine reads = plain_read {E = E} t (Ok x) x fine reads refl
plain_byte {E} t (Err f) fine reads = λ n small e.
    let ok = parse-decimal {E = E} 8 n t (Err f) (omega arith) (omega arith) e reads in
    cc

before_tab : (xs ys : List ℕ) → AllDigits 10 xs → before 9 (xs ++ (9 ∷ ys)) ≡ length xs
before_tab [] ys d = refl
before_tab (c ∷ cs) ys d =
    let digit = digit_from_value c d.0 in
    cond-false (eqb c 9) 0 (suc (before 9 (cs ++ (9 ∷ ys)))) (ne_eqb c 9 (λ q. omega arith)) ∙ ap suc (before_tab cs ys d.1)

-- where two numbers with a tab between are cut
pub state_parts : (t : List ℕ) (l a : ℕ) → l < 256 → t ≡ decimal l ++ (9 ∷ decimal a) → (before 9 t < length t) × (take (before 9 t) t ≡ decimal l) × (drop (before 9 t + 1) t ≡ decimal a)
state_parts t l a small e =
    let k = ap (before 9) e ∙ before_tab (decimal l) (decimal a) (digits_decimal own l (omega arith)) in
    let behind = ap₂ drop k e ∙ drop_at (decimal l) (9 ∷ decimal a) (length (decimal l)) refl in
    (omega (arith, k, ap length e, length-append (decimal l) (9 ∷ decimal a)), ap₂ take k e ∙ take_at (decimal l) (9 ∷ decimal a) (length (decimal l)) refl, sym (drop-drop 1 (before 9 t) t) ∙ ap (drop 1) behind)
