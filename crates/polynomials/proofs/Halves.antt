-- A word of 2 ^ n bits as a polynomial in n variables, by halves.
use Rattle.std.proofs.Common.{◌≡◌, ℕ, suc, ◌+◌, ◌-◌, ◌*◌, ◌/◌, ◌%◌, ◌^◌, ◌<◌, ◌≤◌, Bool, true, false, ◌&&◌, eqb, sym, refl, ap, ◌∙◌, subst, ap₂, arith, shr-shr, shr_lt, pow_mono}
use lib.Bits.{bit_and, and_mask}
use Rattle.std.proofs.lemmas.Nat.{one_shl}
use Rattle.polynomials.specs.Sets.{◌⊕◌, bit_at}
use Rattle.polynomials.specs.Polynomial.{value_in}
use Rattle.polynomials.proofs.Digits.{bit_mod, bit_zero, double}
use Rattle.polynomials.proofs.Values.{in_cong, in_none, in_top, in_nothing}

-- the bits after a shift to the right
bit_shr : (k h w : ℕ) → bit_at k (w / 2 ^ h) ≡ bit_at (h + k) w
unfolding bit_at
bit_shr k h w = ap (λ (x : ℕ). eqb (x % 2) 1) (shr-shr w h k)

-- the value by the lower half of the word, and the higher half where the highest variable is 1
pub word_halves : (n m h w u : ℕ) → n ≡ suc m → h ≡ 2 ^ m
    → value_in n (λ s. bit_at s w) u ≡ (value_in m (λ s. bit_at s (w % 2 ^ h)) u ⊕ (bit_at m u && value_in m (λ s. bit_at s (w / 2 ^ h)) u))
word_halves n m h w u e f =
    ap (λ (k : ℕ). value_in k (λ s. bit_at s w) u) e
    ∙ in_top m (λ s. bit_at s w) u
    ∙ ap₂ (λ (x y : Bool). x ⊕ (bit_at m u && y))
    (in_cong m (λ s. bit_at s w) (λ s. bit_at s (w % 2 ^ h)) u (λ s l. sym (bit_mod s h w (omega arith))))
    (in_cong m (λ s. bit_at (2 ^ m + s) w) (λ s. bit_at s (w / 2 ^ h)) u
    (λ s l. ap (λ (k : ℕ). bit_at (k + s) w) (sym f) ∙ sym (bit_shr s h w)))

-- a word with no bits has the value 0
pub word_none : (n w u : ℕ) → w ≡ 0 → value_in n (λ s. bit_at s w) u ≡ false
word_none n w u e =
    in_cong n (λ s. bit_at s w) (λ s. false) u (λ s l. ap (bit_at s) e ∙ bit_zero s) ∙ in_nothing n u

-- the word 1 in no variables has the value 1
pub word_one : (n w u : ℕ) → n ≡ 0 → w < 2 ^ (2 ^ n) → (w ≡ 0 → ⊥) → value_in n (λ s. bit_at s w) u ≡ true
word_one n w u e l d =
    let k : w < 2 = subst (λ (x : ℕ). w < 2 ^ (2 ^ x)) e l in
    let one : w ≡ 1 = omega arith in
    ap₂ (λ (x y : ℕ). value_in x (λ s. bit_at s y) u) e one ∙ in_none (λ s. bit_at s 1) u ∙ (unfold bit_at in refl)

-- the higher half of a word is below 2 ^ (half its bits)
pub half_fits : (n m h w : ℕ) → n ≡ suc m → h ≡ 2 ^ m → w < 2 ^ (2 ^ n) → w / 2 ^ h < 2 ^ (2 ^ m)
half_fits n m h w e f l =
    let two : 2 ^ n ≡ h + h = ap (λ (k : ℕ). 2 ^ k) e ∙ double m ∙ ap₂ (λ (x y : ℕ). x + y) (sym f) (sym f) in
    subst (λ (x : ℕ). w / 2 ^ h < 2 ^ x) f (shr_lt h h (subst (λ (x : ℕ). w < 2 ^ x) two l))

-- `1 << n`
pub power_is : (n : ℕ) → n < 6 → ((1 * 2 ^ n) % 2 ^ 32 ≡ 2 ^ n) × ((1 * 2 ^ n) % 2 ^ 32 ≤ 32)
power_is n h =
    let e = one_shl n 32 (omega arith) in
    let l : n ≤ 5 = omega arith in
    let p : 2 ^ n ≤ 2 ^ 5 = pow_mono l in
    (e, omega arith)

-- `w & ((1 << k) - 1)`
pub low_bits_are : (w k : ℕ) → k < 64 → bit_and w ((1 * 2 ^ k) % 2 ^ 64 - 1) ≡ w % 2 ^ k
low_bits_are w k h = ap (λ (x : ℕ). bit_and w (x - 1)) (one_shl k 64 (omega arith)) ∙ and_mask w k
