-- The values of a polynomial in n variables, by halves on the highest variable.
use Rattle.std.proofs.Common.{◌≡◌, ℕ, zero, suc, ◌+◌, ◌^◌, ◌<◌, Bool, true, false, cond, not, ◌&&◌, ◌||◌, sym, refl, ap, ◌∙◌, ap₂, zero-add}
use mathlib.Core.Bool.{and-true, and-false, and_assoc, and_comm}
use lib.Arith.{lt-one}
use Rattle.polynomials.specs.Sets.{◌⊕◌, xor_below, all_below, bit_at, within}
use Rattle.polynomials.specs.Polynomial.{Polynomial, value_in}
use Rattle.polynomials.proofs.Sums.{xor_false, and_xor, sum_cong, sum_add, sum_scale, sum_split, all_cong}
use Rattle.polynomials.proofs.Digits.{put, put_low, put_high, put_all, bit_small, double}

-- ---- laws in n variables

-- equal terms, equal values
pub in_cong : (n : ℕ) (P Q : Polynomial) (v : ℕ) → ((s : ℕ) → s < 2 ^ n → P s ≡ Q s) → value_in n P v ≡ value_in n Q v
unfolding value_in
in_cong n P Q v h =
    sum_cong (2 ^ n) (λ s. within n s v && P s) (λ s. within n s v && Q s) (λ s l. ap (λ (x : Bool). within n s v && x) (h s l))

-- the value of a sum
pub in_sum : (n : ℕ) (P Q : Polynomial) (v : ℕ) → value_in n (λ s. P s ⊕ Q s) v ≡ (value_in n P v ⊕ value_in n Q v)
unfolding value_in
in_sum n P Q v =
    sum_cong (2 ^ n) (λ s. within n s v && (P s ⊕ Q s)) (λ s. (within n s v && P s) ⊕ (within n s v && Q s))
    (λ s l. and_xor (within n s v) (P s) (Q s))
    ∙ sum_add (2 ^ n) (λ s. within n s v && P s) (λ s. within n s v && Q s)

-- `and` in either order
swap_and : (a b c : Bool) → (a && (b && c)) ≡ (b && (a && c))
swap_and true b c = refl
swap_and false b c = sym (and-false b)

-- a common factor
pub in_scale : (n : ℕ) (b : Bool) (P : Polynomial) (v : ℕ) → value_in n (λ s. b && P s) v ≡ (b && value_in n P v)
unfolding value_in
in_scale n b P v =
    sum_cong (2 ^ n) (λ s. within n s v && (b && P s)) (λ s. b && (within n s v && P s)) (λ s l. swap_and (within n s v) b (P s))
    ∙ sum_scale (2 ^ n) b (λ s. within n s v && P s)

-- ---- by halves

-- a set below 2 ^ n does not have the highest variable, and one from there on does
top_low : (n s w : ℕ) → s < 2 ^ n → within (suc n) s w ≡ within n s w
unfolding within all_below
top_low n s w h =
    ap (λ (x : Bool). all_below n (λ i. not (bit_at i s) || bit_at i w) && (not x || bit_at n w)) (bit_small n s h)
    ∙ and-true (all_below n (λ i. not (bit_at i s) || bit_at i w))

top_high : (n s w : ℕ) → s < 2 ^ n → within (suc n) (2 ^ n + s) w ≡ (bit_at n w && within n s w)
unfolding within all_below
top_high n s w h =
    ap (λ (x : Bool). all_below n (λ i. not (bit_at i (2 ^ n + s)) || bit_at i w) && (not x || bit_at n w)) (put_high n true s h)
    ∙ and_comm (all_below n (λ i. not (bit_at i (2 ^ n + s)) || bit_at i w)) (bit_at n w)
    ∙ ap (λ (x : Bool). bit_at n w && x)
    (all_cong n (λ i. not (bit_at i (2 ^ n + s)) || bit_at i w) (λ i. not (bit_at i s) || bit_at i w)
    (λ i k. ap (λ (x : Bool). not x || bit_at i w) (put_low i n true s k h)))

-- P is P₀ + x · P₁ with x the highest variable: P₀ has the terms below 2 ^ n, and P₁ those from there on
pub in_top : (n : ℕ) (P : Polynomial) (w : ℕ)
    → value_in (suc n) P w ≡ (value_in n P w ⊕ (bit_at n w && value_in n (λ s. P (2 ^ n + s)) w))
unfolding value_in
in_top n P w =
    ap (λ (k : ℕ). xor_below k (λ s. within (suc n) s w && P s)) (double n)
    ∙ sum_split (2 ^ n) (2 ^ n) (λ s. within (suc n) s w && P s)
    ∙ ap₂ ◌⊕◌
    (sum_cong (2 ^ n) (λ s. within (suc n) s w && P s) (λ s. within n s w && P s)
    (λ s h. ap (λ (x : Bool). x && P s) (top_low n s w h)))
    (sum_cong (2 ^ n) (λ s. within (suc n) (2 ^ n + s) w && P (2 ^ n + s)) (λ s. bit_at n w && (within n s w && P (2 ^ n + s)))
    (λ s h. ap (λ (x : Bool). x && P (2 ^ n + s)) (top_high n s w h) ∙ and_assoc (bit_at n w) (within n s w) (P (2 ^ n + s)))
    ∙ sum_scale (2 ^ n) (bit_at n w) (λ s. within n s w && P (2 ^ n + s)))

-- only the n lowest variables count
pub in_bits : (n : ℕ) (P : Polynomial) (u v : ℕ) → ((i : ℕ) → i < n → bit_at i u ≡ bit_at i v) → value_in n P u ≡ value_in n P v
unfolding value_in within
in_bits n P u v same =
    sum_cong (2 ^ n) (λ s. all_below n (λ i. not (bit_at i s) || bit_at i u) && P s) (λ s. all_below n (λ i. not (bit_at i s) || bit_at i v) && P s)
    (λ s h. ap (λ (x : Bool). x && P s)
    (all_cong n (λ i. not (bit_at i s) || bit_at i u) (λ i. not (bit_at i s) || bit_at i v)
    (λ i k. ap (λ (x : Bool). not (bit_at i s) || x) (same i k))))

-- so a bit above them may be anything
in_low : (n : ℕ) (P : Polynomial) (b : Bool) (v : ℕ) → v < 2 ^ n → value_in n P (put n b v) ≡ value_in n P v
in_low n P b v l = in_bits n P (put n b v) v (λ i k. put_low i n b v k l)

-- the same where the assignment is b, for the highest variable, above v
pub in_halves : (n : ℕ) (P : Polynomial) (b : Bool) (v : ℕ) → v < 2 ^ n
    → value_in (suc n) P (put n b v) ≡ (value_in n P v ⊕ (b && value_in n (λ s. P (2 ^ n + s)) v))
in_halves n P b v l =
    in_top n P (put n b v)
    ∙ ap₂ (λ (x y : Bool). x ⊕ (bit_at n (put n b v) && y)) (in_low n P b v l) (in_low n (λ s. P (2 ^ n + s)) b v l)
    ∙ ap (λ (x : Bool). value_in n P v ⊕ (x && value_in n (λ s. P (2 ^ n + s)) v)) (put_high n b v l)

-- ---- the terms are the values of the values

-- the higher half is added twice, which is nothing
meet : (b : Bool) (p q : Bool) → (p ⊕ (b && (p ⊕ q))) ≡ cond b q p
meet true true true = refl
meet true true false = refl
meet true false q = refl
meet false p q = xor_false p

-- the term of the half that b says
which : (n : ℕ) (P : Polynomial) (b : Bool) (r : ℕ) → cond b (P (2 ^ n + r)) (P r) ≡ P (put n b r)
which n P true r = refl
which n P false r = ap P (sym (zero-add r))

-- in no variables the value is the constant term
pub in_none : (P : Polynomial) (v : ℕ) → value_in 0 P v ≡ P 0
unfolding value_in within xor_below all_below
in_none P v = refl

-- by halves: the values of the values are the terms
pub in_back : (n : ℕ) (P : Polynomial) (v : ℕ) → v < 2 ^ n → value_in n (value_in n P) v ≡ P v
in_back zero P v h = in_none (value_in 0 P) v ∙ in_none P 0 ∙ ap P (sym (lt-one h))
in_back (suc n) P v h =
    let (b, r, l, e) = put_all n v h in
    let low : Polynomial = value_in n P in
    let high : Polynomial = value_in n (λ s. P (2 ^ n + s)) in
    let all : Polynomial = value_in (suc n) P in
    ap (value_in (suc n) all) (sym e)
    ∙ in_halves n all b r l
    ∙ ap₂ (λ (x y : Bool). x ⊕ (b && y))
    (in_cong n all low r
    (λ s k. ap all (sym (zero-add s)) ∙ in_halves n P false s k ∙ xor_false (low s))
    ∙ in_back n P r l)
    (in_cong n (λ s. all (2 ^ n + s)) (λ s. low s ⊕ high s) r (λ s k. in_halves n P true s k)
    ∙ in_sum n low high r
    ∙ ap₂ ◌⊕◌ (in_back n P r l) (in_back n (λ s. P (2 ^ n + s)) r l))
    ∙ meet b (P r) (P (2 ^ n + r))
    ∙ which n P b r
    ∙ ap P e

-- the polynomial with no terms has the value 0
pub in_nothing : (n w : ℕ) → value_in n (λ s. false) w ≡ false
in_nothing n w = in_scale n false (λ s. false) w
