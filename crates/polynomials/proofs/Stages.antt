-- The transform by stages, one variable after the other, and by words.
use Rattle.std.proofs.Common.{◌≡◌, ℕ, zero, suc, ◌+◌, ◌-◌, ◌*◌, ◌/◌, ◌%◌, ◌^◌, ◌<◌, ◌≤◌, Bool, true, false, not, ◌&&◌, eqb, sym, refl, ap, ◌∙◌, subst, ap₂, ⊎_elim, add-zero, add-mul, one-mul, zero-mul, mul-add, arith, pow_pos}
use mathlib.Core.Bool.{beq, and_comm}
use native.Mathlib.Nat.{add-div_right}
use lib.Arith.{lt-one}
use lib.Bits.{bit_and, bit_xor}
use Rattle.std.proofs.lemmas.Bool.{cases_eq, cases_lt, eq-eqb, ne_eqb}
use Rattle.polynomials.specs.Sets.{◌⊕◌, bit_at, all_below}
use Rattle.polynomials.specs.Polynomial.{Polynomial, value_in}
use Rattle.polynomials.proofs.Sums.{xor_false, xor_comm, all_at}
use Rattle.polynomials.proofs.Digits.{put, put_all, double, bit_xor_lem, bit_and_lem, bit_mod, bit_small, bit_high, shl_low, shl_high}
use Rattle.polynomials.proofs.Values.{in_cong, in_halves, in_none}

-- ---- stages

-- after n stages each place has its values in the n lowest variables
pub stage : ℕ → Polynomial → Polynomial
stage zero F v = F v
stage (suc n) F v = stage n F v ⊕ (bit_at n v && stage n F (v - 2 ^ n))

-- at an even multiple of 2 ^ n bit n is 0, and at an odd one 1
even_place : (n h r : ℕ) → r < 2 ^ n → bit_at n ((h + h) * 2 ^ n + r) ≡ false
even_place n h r l =
    ap (λ (k : ℕ). bit_at k ((h + h) * 2 ^ n + r)) (sym (add-zero n)) ∙ bit_high 0 n (h + h) r l ∙ last
  where
    last : bit_at 0 (h + h) ≡ false
    last = unfold bit_at in ne_eqb ((h + h) / 1 % 2) 1 (λ e. omega arith)

odd_place : (n h r : ℕ) → r < 2 ^ n → bit_at n ((h + h + 1) * 2 ^ n + r) ≡ true
odd_place n h r l =
    ap (λ (k : ℕ). bit_at k ((h + h + 1) * 2 ^ n + r)) (sym (add-zero n)) ∙ bit_high 0 n (h + h + 1) r l ∙ last
  where
    last : bit_at 0 (h + h + 1) ≡ true
    last = unfold bit_at in eq-eqb ((h + h + 1) / 1 % 2) 1 (omega arith)

-- where n stages do what they should, and at a multiple of 2 ^ suc n, one more does
module _ (n h : ℕ) (F : Polynomial)
    (ih : (k v : ℕ) → v < 2 ^ n → stage n F (k * 2 ^ n + v) ≡ value_in n (λ s. F (k * 2 ^ n + s)) v) where
  -- multiples of 2 ^ suc n by those of 2 ^ n
  twice : h * 2 ^ suc n ≡ h * 2 ^ n + h * 2 ^ n
  twice = ap (λ (x : ℕ). h * x) (double n) ∙ mul-add h (2 ^ n) (2 ^ n)

  even : (h + h) * 2 ^ n ≡ h * 2 ^ n + h * 2 ^ n
  even = add-mul h h (2 ^ n)

  odd : (h + h + 1) * 2 ^ n ≡ (h + h) * 2 ^ n + 2 ^ n
  odd = add-mul (h + h) 1 (2 ^ n) ∙ ap (λ (x : ℕ). (h + h) * 2 ^ n + x) (one-mul (2 ^ n))

  -- in the lower half of a block (b is false), and in the higher
  stage_half : (b : Bool) (r : ℕ) → r < 2 ^ n
      → stage (suc n) F (h * 2 ^ suc n + put n b r) ≡ value_in (suc n) (λ s. F (h * 2 ^ suc n + s)) (put n b r)
  unfolding stage
  stage_half false r l =
      let q : ℕ = (h + h) * 2 ^ n + r in
      let at : h * 2 ^ suc n + (0 + r) ≡ q = omega (arith, twice, even) in
      ap (stage (suc n) F) at
      ∙ ap (λ (x : Bool). stage n F q ⊕ (x && stage n F (q - 2 ^ n))) (even_place n h r l)
      ∙ xor_false (stage n F q)
      ∙ ih (h + h) r l
      ∙ in_cong n (λ s. F ((h + h) * 2 ^ n + s)) (λ s. F (h * 2 ^ suc n + s)) r (λ s k. ap F (omega (arith, twice, even)))
      ∙ sym (in_halves n (λ s. F (h * 2 ^ suc n + s)) false r l ∙ xor_false (value_in n (λ s. F (h * 2 ^ suc n + s)) r))
  stage_half true r l =
      let q : ℕ = (h + h + 1) * 2 ^ n + r in
      let at : h * 2 ^ suc n + (2 ^ n + r) ≡ q = omega (arith, twice, even, odd) in
      let down : q - 2 ^ n ≡ (h + h) * 2 ^ n + r = omega (arith, odd) in
      ap (stage (suc n) F) at
      ∙ ap₂ (λ (x : Bool) (y : ℕ). stage n F q ⊕ (x && stage n F y)) (odd_place n h r l) down
      ∙ ap₂ ◌⊕◌ (ih (h + h + 1) r l) (ih (h + h) r l)
      ∙ xor_comm (value_in n (λ s. F ((h + h + 1) * 2 ^ n + s)) r) (value_in n (λ s. F ((h + h) * 2 ^ n + s)) r)
      ∙ ap₂ ◌⊕◌
      (in_cong n (λ s. F ((h + h) * 2 ^ n + s)) (λ s. F (h * 2 ^ suc n + s)) r (λ s k. ap F (omega (arith, twice, even))))
      (in_cong n (λ s. F ((h + h + 1) * 2 ^ n + s)) (λ s. F (h * 2 ^ suc n + (2 ^ n + s))) r (λ s k. ap F (omega (arith, twice, even, odd))))
      ∙ sym (in_halves n (λ s. F (h * 2 ^ suc n + s)) true r l)

-- n stages give each block of 2 ^ n places the values of that block
stage_is : (n h v : ℕ) (F : Polynomial) → v < 2 ^ n → stage n F (h * 2 ^ n + v) ≡ value_in n (λ s. F (h * 2 ^ n + s)) v
unfolding stage
stage_is zero h v F l = ap (λ (k : ℕ). F (h * 1 + k)) (lt-one l) ∙ sym (in_none (λ s. F (h * 1 + s)) v)
stage_is (suc n) h v F l =
    let (b, r, k, e) = put_all n v l in
    subst (λ (x : ℕ). stage (suc n) F (h * 2 ^ suc n + x) ≡ value_in (suc n) (λ s. F (h * 2 ^ suc n + s)) x) e
    (stage_half n h F (λ j u m. stage_is n j u F m) b r k)

-- and the first block the values of F
stages_are : (n v : ℕ) (F : Polynomial) → v < 2 ^ n → stage n F v ≡ value_in n F v
stages_are n v F l =
    let z : (s : ℕ) → 0 * 2 ^ n + s ≡ s = λ s. omega (arith, zero-mul (2 ^ n)) in
    ap (stage n F) (sym (z v)) ∙ stage_is n 0 v F l ∙ in_cong n (λ s. F (0 * 2 ^ n + s)) F v (λ s k. ap F (z s))

-- ---- a stage on a word

-- adding 2 ^ i turns bit i
bit_next : (i w : ℕ) → bit_at i (w + 2 ^ i) ≡ not (bit_at i w)
unfolding bit_at
bit_next i w = ap (λ (x : ℕ). eqb (x % 2) 1) (add-div_right w (pow_pos i)) ∙ turn (w / 2 ^ i)
  where
    turn : (q : ℕ) → eqb ((q + 1) % 2) 1 ≡ not (eqb (q % 2) 1)
    turn q =
        ⊎_elim (λ (e : q % 2 ≡ 1). ne_eqb ((q + 1) % 2) 1 (λ x. omega arith) ∙ ap not (sym (eq-eqb (q % 2) 1 e)))
        (λ d. eq-eqb ((q + 1) % 2) 1 (omega arith) ∙ ap not (sym (ne_eqb (q % 2) 1 d)))
        (cases_eq (q % 2) 1)

-- the mask m has, of the places below 64, those whose bit i is 0
pub record Mask (i m : ℕ) : Type 0 where
  pub has : (s : ℕ) → s < 64 → bit_at s m ≡ not (bit_at i s)

-- the same as a test that computes
masks : ℕ → ℕ → Bool
masks i m = all_below 64 (λ s. beq (bit_at s m) (not (bit_at i s)))

-- equal by the test, equal
beq_eq : (a b : Bool) → beq a b ≡ true → a ≡ b
beq_eq true true e = refl
beq_eq true false e = sym e
beq_eq false true e = e
beq_eq false false e = refl

-- the test gives the fact
mask : (i m : ℕ) → masks i m ≡ true → Mask i m
unfolding masks
mask i m e = record {
  has = λ s l. beq_eq (bit_at s m) (not (bit_at i s)) (all_at 64 (λ k. beq (bit_at k m) (not (bit_at i k))) e s l);
}

-- the masks of the six variables of a word
pub masks_are :
    Mask 0 0x5555_5555_5555_5555 × Mask 1 0x3333_3333_3333_3333 × Mask 2 0x0f0f_0f0f_0f0f_0f0f
    × Mask 3 0x00ff_00ff_00ff_00ff × Mask 4 0x0000_ffff_0000_ffff × Mask 5 0x0000_0000_ffff_ffff
unfolding masks all_below bit_at
masks_are = (
  mask 0 0x5555_5555_5555_5555 refl,
  mask 1 0x3333_3333_3333_3333 refl,
  mask 2 0x0f0f_0f0f_0f0f_0f0f refl,
  mask 3 0x00ff_00ff_00ff_00ff refl,
  mask 4 0x0000_ffff_0000_ffff refl,
  mask 5 0x0000_0000_ffff_ffff refl,
)

-- what `x ^ ((x & m) << (1 << i))` has at place v
spread_at : (x m i v : ℕ) → Mask i m → v < 64
    → bit_at v (bit_xor x ((bit_and x m * 2 ^ (2 ^ i)) % 2 ^ 64)) ≡ (bit_at v x ⊕ (bit_at i v && bit_at (v - 2 ^ i) x))
spread_at x m i v mk l =
    bit_xor_lem v x ((bit_and x m * 2 ^ (2 ^ i)) % 2 ^ 64)
    ∙ ap (λ (b : Bool). bit_at v x ⊕ b) (bit_mod v 64 (bit_and x m * 2 ^ (2 ^ i)) l ∙ ⊎_elim below above (cases_lt v (2 ^ i)))
  where
    below : v < 2 ^ i → bit_at v (bit_and x m * 2 ^ (2 ^ i)) ≡ (bit_at i v && bit_at (v - 2 ^ i) x)
    below k = shl_low v (2 ^ i) (bit_and x m) k ∙ ap (λ (b : Bool). b && bit_at (v - 2 ^ i) x) (sym (bit_small i v k))

    above : 2 ^ i ≤ v → bit_at v (bit_and x m * 2 ^ (2 ^ i)) ≡ (bit_at i v && bit_at (v - 2 ^ i) x)
    above k =
        let up : 2 ^ i + (v - 2 ^ i) ≡ v = omega arith in
        let re : (v - 2 ^ i) + 2 ^ i ≡ v = omega arith in
        ap (λ (j : ℕ). bit_at j (bit_and x m * 2 ^ (2 ^ i))) (sym up)
        ∙ shl_high (v - 2 ^ i) (2 ^ i) (bit_and x m)
        ∙ bit_and_lem (v - 2 ^ i) x m
        ∙ and_comm (bit_at (v - 2 ^ i) x) (bit_at (v - 2 ^ i) m)
        ∙ ap (λ (b : Bool). b && bit_at (v - 2 ^ i) x)
        (mk.has (v - 2 ^ i) (omega arith) ∙ sym (bit_next i (v - 2 ^ i)) ∙ ap (bit_at i) re)

-- the word x is what n stages make of F
pub record Staged (n : ℕ) (F : Polynomial) (x : ℕ) : Type 0 where
  pub at : (v : ℕ) → v < 64 → bit_at v x ≡ stage n F v

-- before any stage the word is the polynomial
pub stage_none : (x : ℕ) → Staged 0 (λ s. bit_at s x) x
unfolding stage
stage_none x = record { at = λ v l. refl }

-- one more stage, as the code makes it
pub stage_next : {n m x y : ℕ} {F : Polynomial} → Mask n m → y ≡ bit_xor x ((bit_and x m * 2 ^ (2 ^ n)) % 2 ^ 64)
    → Staged n F x → Staged (suc n) F y
unfolding stage
stage_next {n} {m} {x} {y} {F} mk e before = record {
  at = λ v l. ap (bit_at v) e ∙ spread_at x m n v mk l
      ∙ ap₂ (λ (a b : Bool). a ⊕ (bit_at n v && b)) (before.at v l) (before.at (v - 2 ^ n) (omega arith));
}

-- after all six, the word has the values
pub stages_end : {x : ℕ} {F : Polynomial} → Staged 6 F x → (v : ℕ) → v < 64 → bit_at v x ≡ value_in 6 F v
stages_end {x} {F} st v l = st.at v l ∙ stages_are 6 v F l
