-- The values of each way to make a polynomial: the laws of specs/Laws.antt.
use Rattle.std.proofs.Common.{◌≡◌, ℕ, zero, suc, ◌-◌, ◌*◌, ◌%◌, ◌^◌, ◌<◌, ◌≤◌, Bool, true, false, cond, not, ◌&&◌, ◌||◌, eqb, ◌⊎◌, sym, refl, ap, ◌∙◌, inl, inr, ⊎_elim, arith, pow_mono}
use mathlib.Core.Bool.{and-true, and-false, and_comm}
use lib.Bits.{bit_or, or_lt}
use lib.Pow.{pow-lt}
use Rattle.std.proofs.lemmas.Nat.{one_shl}
use Rattle.std.proofs.lemmas.Bool.{cases_lt, ne_eqb}
use Rattle.polynomials.specs.Sets.{xor_below, all_below, set_below, bit_at, within}
use Rattle.polynomials.specs.Polynomial.{Polynomial, one, variable, sum, product, product_over, substitute, value_in, value, step}
use Rattle.polynomials.specs.Laws as laws
use Rattle.polynomials.proofs.Sums.{sum_cong, sum_scale, sum_swap, sum_pick, all_cong, all_and, all_pick, all_true, eqb_comm}
use Rattle.polynomials.proofs.Digits.{bit_or_lem, bit_set, bit_pow, bit_zero, bit_small}
use Rattle.polynomials.proofs.Values.{in_cong, in_sum, in_scale, in_back, in_nothing}

-- the value of a sum is the exclusive or of the values
pub value_sum : laws.ValueSum
unfolding sum
value_sum P Q v = in_sum 8 P Q v

-- the transform is its own inverse
pub value_value : laws.ValueValue
value_value P s h = in_back 8 P s h

-- so equal values come from equal terms
pub unique : laws.Unique
unique P Q same s h = sym (in_back 8 P s h) ∙ in_cong 8 (value P) (value Q) s same ∙ in_back 8 Q s h

-- ---- a sum of polynomials

-- the value of a sum of n polynomials
pub value_total : (n : ℕ) (F : ℕ → Polynomial) (v : ℕ) → value (λ s. xor_below n (λ t. F t s)) v ≡ xor_below n (λ t. value (F t) v)
unfolding value_in
value_total n F v =
    sum_cong 256 (λ s. within 8 s v && xor_below n (λ t. F t s)) (λ s. xor_below n (λ t. within 8 s v && F t s))
    (λ s l. sym (sum_scale n (within 8 s v) (λ t. F t s)))
    ∙ sum_swap 256 n (λ s t. within 8 s v && F t s)

-- a single term
value_term : (m : ℕ) (v : ℕ) → m < 256 → value (λ s. eqb m s) v ≡ within 8 m v
unfolding value_in
value_term m v h =
    sum_cong 256 (λ s. within 8 s v && eqb m s) (λ s. eqb m s && within 8 s v) (λ s l. and_comm (within 8 s v) (eqb m s))
    ∙ sum_pick 256 m (λ s. within 8 s v) h

-- a union lies in v where both sets do
within_or : (t u v : ℕ) → within 8 (bit_or t u) v ≡ (within 8 t v && within 8 u v)
unfolding within
within_or t u v =
    all_cong 8 (λ i. not (bit_at i (bit_or t u)) || bit_at i v) (λ i. (not (bit_at i t) || bit_at i v) && (not (bit_at i u) || bit_at i v))
    (λ i l. ap (λ (x : Bool). not x || bit_at i v) (bit_or_lem i t u) ∙ each (bit_at i t) (bit_at i u) (bit_at i v))
    ∙ all_and 8 (λ i. not (bit_at i t) || bit_at i v) (λ i. not (bit_at i u) || bit_at i v)
  where
    each : (a b c : Bool) → (not (a || b) || c) ≡ ((not a || c) && (not b || c))
    each true true true = refl
    each true true false = refl
    each true false c = sym (and-true c)
    each false b c = refl

-- two tests and two coefficients, by pairs
regroup : (a b p q : Bool) → ((p && q) && (a && b)) ≡ ((a && p) && (b && q))
regroup true true p q = and-true (p && q)
regroup true false p q = and-false (p && q) ∙ sym (and-false p)
regroup false b p q = and-false (p && q)

-- the value of a product: over all pairs of terms, the union lies in v where both do
pub value_product : laws.ValueProduct
unfolding product
value_product P Q v =
    value_total 256 (λ t s. xor_below 256 (λ u. eqb (bit_or t u) s && (P t && Q u))) v
    ∙ sum_cong 256 (λ t. value (λ s. xor_below 256 (λ u. eqb (bit_or t u) s && (P t && Q u))) v) (λ t. (within 8 t v && P t) && value Q v)
    (λ t l. value_total 256 (λ u s. eqb (bit_or t u) s && (P t && Q u)) v
    ∙ sum_cong 256 (λ u. value (λ s. eqb (bit_or t u) s && (P t && Q u)) v) (λ u. (within 8 t v && P t) && (within 8 u v && Q u))
    (λ u k. pair t u l k)
    ∙ sum_scale 256 (within 8 t v && P t) (λ u. within 8 u v && Q u)
    ∙ ap (λ (x : Bool). (within 8 t v && P t) && x) (unfold value_in in refl))
    ∙ outer
  where
    pair : (t u : ℕ) → t < 256 → u < 256 → value (λ s. eqb (bit_or t u) s && (P t && Q u)) v ≡ ((within 8 t v && P t) && (within 8 u v && Q u))
    pair t u l k =
        in_cong 8 (λ s. eqb (bit_or t u) s && (P t && Q u)) (λ s. (P t && Q u) && eqb (bit_or t u) s) v
        (λ s h. and_comm (eqb (bit_or t u) s) (P t && Q u))
        ∙ in_scale 8 (P t && Q u) (λ s. eqb (bit_or t u) s) v
        ∙ ap (λ (x : Bool). (P t && Q u) && x) (value_term (bit_or t u) v (or_lt 8 t u l k) ∙ within_or t u v)
        ∙ regroup (within 8 t v) (within 8 u v) (P t) (Q u)

    outer : xor_below 256 (λ t. (within 8 t v && P t) && value Q v) ≡ (value P v && value Q v)
    outer =
        sum_cong 256 (λ t. (within 8 t v && P t) && value Q v) (λ t. value Q v && (within 8 t v && P t)) (λ t l. and_comm (within 8 t v && P t) (value Q v))
        ∙ sum_scale 256 (value Q v) (λ t. within 8 t v && P t)
        ∙ and_comm (value Q v) (xor_below 256 (λ t. within 8 t v && P t))
        ∙ (unfold value_in in refl)

-- ---- one, and a variable

-- the empty set lies in every vector
pub value_one : laws.ValueOne
unfolding one
value_one v =
    in_cong 8 (λ s. eqb s 0) (λ s. eqb 0 s) v (λ s l. eqb_comm s 0) ∙ value_term 0 v (omega arith) ∙ none
  where
    none : within 8 0 v ≡ true
    none = unfold within in all_true 8 (λ i. not (bit_at i 0) || bit_at i v) (λ i l. ap (λ (x : Bool). not x || bit_at i v) (bit_zero i))

-- the set of one variable lies in v where that variable does
lone : (i v : ℕ) → i < 8 → within 8 (2 ^ i) v ≡ bit_at i v
unfolding within
lone i v h =
    all_cong 8 (λ j. not (bit_at j (2 ^ i)) || bit_at j v) (λ j. not (eqb i j) || bit_at j v)
    (λ j l. ap (λ (x : Bool). not x || bit_at j v) (bit_pow i j))
    ∙ all_pick 8 i (λ j. bit_at j v) h

-- a variable past the eighth has no product below 256
past_last : (i s : ℕ) → 8 ≤ i → s < 256 → s < 2 ^ i
past_last i s h l = let k : 2 ^ 8 ≤ 2 ^ i = pow_mono h in omega arith

-- the terms of a variable, where there is one
pub variable_is : (i s : ℕ) → 1 ≤ i → i ≤ 8 → eqb ((1 * 2 ^ (i - 1)) % 2 ^ 8) s ≡ variable i s
unfolding variable
variable_is zero s low high = absurd (omega arith)
variable_is (suc m) s low high =
    let e : suc m - 1 ≡ m = omega arith in
    ap (λ (k : ℕ). eqb ((1 * 2 ^ k) % 2 ^ 8) s) e ∙ ap (λ (x : ℕ). eqb x s) (one_shl m 8 (omega arith)) ∙ eqb_comm (2 ^ m) s

-- and where there is none
pub variable_none : (i s : ℕ) → (i ≡ 0) ⊎ (9 ≤ i) → s < 256 → variable i s ≡ false
unfolding variable
variable_none zero s out l = refl
variable_none (suc i) s (inl e) l = absurd (omega arith)
variable_none (suc i) s (inr h) l = let m : s < 2 ^ i = past_last i s (omega arith) l in ne_eqb s (2 ^ i) (λ e. omega arith)

-- the value of a variable is its bit in the vector
pub value_variable : laws.ValueVariable
unfolding variable
value_variable zero v l = in_nothing 8 v
value_variable (suc i) v l =
    ⊎_elim
    (λ (h : i < 8).
    in_cong 8 (λ s. eqb s (2 ^ i)) (λ s. eqb (2 ^ i) s) v (λ s k. eqb_comm s (2 ^ i)) ∙ value_term (2 ^ i) v (pow-lt h) ∙ lone i v h)
    (λ (h : 8 ≤ i).
    in_cong 8 (variable (suc i)) (λ s. false) v (λ s k. variable_none (suc i) s (inr (omega arith)) k)
    ∙ in_nothing 8 v ∙ sym (bit_small i v (past_last i v h l)))
    (cases_lt i 8)

-- ---- substitution

-- a factor that may be left out
value_picked : (b : Bool) (P Q : Polynomial) (v : ℕ) → value (cond b (product P Q) P) v ≡ (value P v && (not b || value Q v))
value_picked true P Q v = value_product P Q v
value_picked false P Q v = sym (and-true (value P v))

-- the value of a product over a set: each variable in the set has the value 1
value_over : (P : ℕ → Polynomial) (n s v : ℕ) → value (product_over P n s) v ≡ all_below n (λ i. not (bit_at i s) || value (P i) v)
unfolding product_over all_below
value_over P zero s v = value_one v
value_over P (suc n) s v =
    value_picked (bit_at n s) (product_over P n s) (P n) v
    ∙ ap (λ (x : Bool). x && (not (bit_at n s) || value (P n) v)) (value_over P n s v)

-- which says that the set lies in the vector of those values
within_step : (P : ℕ → Polynomial) (s v : ℕ) → all_below 8 (λ i. not (bit_at i s) || value (P i) v) ≡ within 8 s (step P v)
unfolding within step
within_step P s v =
    all_cong 8 (λ i. not (bit_at i s) || value (P i) v) (λ i. not (bit_at i s) || bit_at i (set_below 8 (λ k. value (P k) v)))
    (λ i l. ap (λ (x : Bool). not (bit_at i s) || x) (sym (bit_set 8 i (λ k. value (P k) v) l)))

-- so each term of R has the value that it has at that vector
pub value_substitute : laws.ValueSubstitute
unfolding substitute
value_substitute R P v =
    value_total 256 (λ t s. R t && product_over P 8 t s) v
    ∙ sum_cong 256 (λ t. value (λ s. R t && product_over P 8 t s) v) (λ t. within 8 t (step P v) && R t)
    (λ t l. in_scale 8 (R t) (product_over P 8 t) v
    ∙ ap (λ (x : Bool). R t && x) (value_over P 8 t v ∙ within_step P t v)
    ∙ and_comm (R t) (within 8 t (step P v)))
    ∙ (unfold value_in in refl)

-- all the laws
pub all_laws : laws.ValueOne × laws.ValueVariable × laws.ValueSum × laws.ValueProduct × laws.ValueSubstitute × laws.ValueValue × laws.Unique
all_laws = (value_one, value_variable, value_sum, value_product, value_substitute, value_value, unique)
