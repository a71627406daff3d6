-- The bits of a number: what `bit_at` says of sums, shifts and bit operations, and the number of a set.
use Rattle.std.proofs.Common.{◌≡◌, ℕ, zero, suc, ◌+◌, ◌-◌, ◌*◌, ◌/◌, ◌%◌, ◌^◌, ◌<◌, ◌≤◌, Bool, true, false, cond, ◌&&◌, ◌||◌, eqb, ◌⊎◌, sym, refl, ap, ◌∙◌, ap₂, inl, inr, ⊎_elim, le_of_suc-le-suc, not-suc-le-zero, add-zero, mod-lt, mul_assoc, one-mul, pow-suc, zero-add, zero-mul, add-one, arith, lit<, pow_pos, pow-add, shl_exact, shr-shr}
use native.Mathlib.Nat.{div-eq_of_lt}
use lib.Bits.{bit_and, bit_or, bit_xor, or_shr, and_shr, xor_shr, or_mod, and_mod, xor_mod, shifted_even, or_shifted_r}
use lib.Pow.{high, low, field, mod-mod-pow, shl-shr}
use Rattle.std.proofs.lemmas.Bool.{cases_eq, cases_lt, eq-eqb, ne_eqb}
use Rattle.std.proofs.lemmas.Nat.Bits.{bit_at-pow_same, bit_at-pow_other}
use Rattle.polynomials.specs.Sets.{◌⊕◌, bit_at, set_below}

-- ---- bit operations

-- a binary digit is below 2
no_digit : {A : Type 0} {x : ℕ} → suc (suc x) < 2 → A
no_digit h = absurd (not-suc-le-zero (le_of_suc-le-suc (le_of_suc-le-suc h)))

-- an operation that works digit by digit, and on two digits as f on their tests, works on members as f
module _ (op : ℕ → ℕ → ℕ) (f : Bool → Bool → Bool)
    (shr : (a b k : ℕ) → op a b / 2 ^ k ≡ op (a / 2 ^ k) (b / 2 ^ k))
    (low_digits : (a b k : ℕ) → op a b % 2 ^ k ≡ op (a % 2 ^ k) (b % 2 ^ k))
    (none : eqb (op 0 0) 1 ≡ f false false) (second : eqb (op 0 1) 1 ≡ f false true)
    (first : eqb (op 1 0) 1 ≡ f true false) (two : eqb (op 1 1) 1 ≡ f true true) where
  both : (x y : ℕ) → x < 2 → y < 2 → eqb (op x y) 1 ≡ f (eqb x 1) (eqb y 1)
  both zero zero h l = none
  both zero (suc zero) h l = second
  both (suc zero) zero h l = first
  both (suc zero) (suc zero) h l = two
  both zero (suc (suc y)) h l = no_digit l
  both (suc zero) (suc (suc y)) h l = no_digit l
  both (suc (suc x)) y h l = no_digit h

  by_digits : (i a b : ℕ) → bit_at i (op a b) ≡ f (bit_at i a) (bit_at i b)
  unfolding bit_at
  by_digits i a b =
      ap (λ (x : ℕ). eqb (x % 2) 1) (shr a b i)
      ∙ ap (λ (x : ℕ). eqb x 1) (low_digits (a / 2 ^ i) (b / 2 ^ i) 1)
      ∙ both (a / 2 ^ i % 2) (b / 2 ^ i % 2) (mod-lt (a / 2 ^ i) (omega arith)) (mod-lt (b / 2 ^ i) (omega arith))

-- the three operations
pub bit_or_lem : (i a b : ℕ) → bit_at i (bit_or a b) ≡ (bit_at i a || bit_at i b)
bit_or_lem = by_digits bit_or ◌||◌ or_shr or_mod refl refl refl refl

pub bit_and_lem : (i a b : ℕ) → bit_at i (bit_and a b) ≡ (bit_at i a && bit_at i b)
bit_and_lem = by_digits bit_and ◌&&◌ and_shr and_mod refl refl refl refl

pub bit_xor_lem : (i a b : ℕ) → bit_at i (bit_xor a b) ≡ (bit_at i a ⊕ bit_at i b)
bit_xor_lem = by_digits bit_xor ◌⊕◌ xor_shr xor_mod refl refl refl refl

-- ---- high and low digits

-- a number has no bit above its size
pub bit_small : (i s : ℕ) → s < 2 ^ i → bit_at i s ≡ false
unfolding bit_at
bit_small i s h = ap (λ (x : ℕ). eqb (x % 2) 1) (div-eq_of_lt h)

pub bit_zero : (i : ℕ) → bit_at i 0 ≡ false
bit_zero i = bit_small i 0 (pow_pos i)

-- only the w low digits are kept
pub bit_mod : (i w n : ℕ) → i < w → bit_at i (n % 2 ^ w) ≡ bit_at i n
unfolding bit_at
bit_mod i w n h =
    let e : (w - suc i) + 1 + i ≡ w = omega arith in
    ap (λ (x : ℕ). eqb (n % 2 ^ x / 2 ^ i % 2) 1) (sym e)
    ∙ ap (λ (x : ℕ). eqb (x % 2) 1) (field n ((w - suc i) + 1) i)
    ∙ ap (λ (x : ℕ). eqb x 1) (mod-mod-pow (n / 2 ^ i) (w - suc i) 1)

-- a shift to the left by k
pub shl_low : (i k a : ℕ) → i < k → bit_at i (a * 2 ^ k) ≡ false
unfolding bit_at
shl_low i k a h =
    let e : suc (k - suc i) + i ≡ k = omega arith in
    ap (λ (x : ℕ). eqb (a * 2 ^ x / 2 ^ i % 2) 1) (sym e)
    ∙ ap (λ (x : ℕ). eqb (x / 2 ^ i % 2) 1)
    (ap (λ (x : ℕ). a * x) (pow-add 2 (suc (k - suc i)) i) ∙ sym (mul_assoc a (2 ^ suc (k - suc i)) (2 ^ i)))
    ∙ ap (λ (x : ℕ). eqb (x % 2) 1) (shl-shr (a * 2 ^ suc (k - suc i)) i)
    ∙ ap (λ (x : ℕ). eqb x 1) (shifted_even a (k - suc i))

-- and above k its bits are those of a
pub shl_high : (j k a : ℕ) → bit_at (k + j) (a * 2 ^ k) ≡ bit_at j a
unfolding bit_at
shl_high j k a =
    ap (λ (x : ℕ). eqb (x % 2) 1) (sym (shr-shr (a * 2 ^ k) k j))
    ∙ ap (λ (x : ℕ). eqb (x / 2 ^ j % 2) 1) (shl-shr a k)

-- a single bit
pub bit_pow : (i j : ℕ) → bit_at j (2 ^ i) ≡ eqb i j
unfolding bit_at
bit_pow i j =
    ⊎_elim
    (λ (e : i ≡ j).
    ap (λ (k : ℕ). eqb (2 ^ i / 2 ^ k % 2) 1) (sym e) ∙ ap (λ (x : ℕ). eqb x 1) (bit_at-pow_same i) ∙ sym (eq-eqb i j e))
    (λ (n : i ≡ j → ⊥). ap (λ (x : ℕ). eqb x 1) (bit_at-pow_other i j (λ e. n (sym e))) ∙ sym (ne_eqb i j n))
    (cases_eq i j)

-- q above the n low digits r
pub bit_low : (i n q r : ℕ) → i < n → r < 2 ^ n → bit_at i (q * 2 ^ n + r) ≡ bit_at i r
bit_low i n q r h l = sym (bit_mod i n (q * 2 ^ n + r) h) ∙ ap (bit_at i) (low q n l)

-- and from bit n on those of q
pub bit_high : (j n q r : ℕ) → r < 2 ^ n → bit_at (n + j) (q * 2 ^ n + r) ≡ bit_at j q
unfolding bit_at
bit_high j n q r l =
    ap (λ (x : ℕ). eqb (x % 2) 1) (sym (shr-shr (q * 2 ^ n + r) n j))
    ∙ ap (λ (x : ℕ). eqb (x / 2 ^ j % 2) 1) (high q n l)

-- ---- one more digit, b, at place n above r

-- the number r with bit n added
abbrev pub put : ℕ → Bool → ℕ → ℕ
put n b r = cond b (2 ^ n) 0 + r

-- as a quotient and a rest
put_is : (n : ℕ) (b : Bool) (r : ℕ) → put n b r ≡ cond b 1 0 * 2 ^ n + r
put_is n true r = ap (λ (x : ℕ). x + r) (sym (one-mul (2 ^ n)))
put_is n false r = ap (λ (x : ℕ). x + r) (sym (zero-mul (2 ^ n)))

-- the lowest bit of a digit
digit_is : (b : Bool) → bit_at 0 (cond b 1 0) ≡ b
unfolding bit_at
digit_is true = refl
digit_is false = refl

-- below n the bits are those of r, and bit n is b
pub put_low : (i n : ℕ) (b : Bool) (r : ℕ) → i < n → r < 2 ^ n → bit_at i (put n b r) ≡ bit_at i r
put_low i n b r h l = ap (bit_at i) (put_is n b r) ∙ bit_low i n (cond b 1 0) r h l

pub put_high : (n : ℕ) (b : Bool) (r : ℕ) → r < 2 ^ n → bit_at n (put n b r) ≡ b
put_high n b r l =
    ap₂ bit_at (sym (add-zero n)) (put_is n b r) ∙ bit_high 0 n (cond b 1 0) r l ∙ digit_is b

-- a power of two and the next
pub double : (n : ℕ) → 2 ^ suc n ≡ 2 ^ n + 2 ^ n
double n = omega (arith, pow-suc 2 n)

-- with bit n the number is below the next power
pub put_lt : (n : ℕ) (b : Bool) (r : ℕ) → r < 2 ^ n → put n b r < 2 ^ suc n
put_lt n true r l = omega (arith, double n)
put_lt n false r l = omega (arith, double n)

-- every number below 2 ^ suc n is so made
pub put_all : (n v : ℕ) → v < 2 ^ suc n → (b : Bool) × (r : ℕ) × (r < 2 ^ n) × (put n b r ≡ v)
put_all n v h = go (cases_lt v (2 ^ n))
  where
    go : (v < 2 ^ n) ⊎ (2 ^ n ≤ v) → (b : Bool) × (r : ℕ) × (r < 2 ^ n) × (put n b r ≡ v)
    go (inl l) = (false, v, l, omega arith)
    go (inr l) = (true, v - 2 ^ n, omega (arith, double n), omega arith)

-- ---- the number of a set

-- a set of n has a number below 2 ^ n
pub set_lt : (n : ℕ) (f : ℕ → Bool) → set_below n f < 2 ^ n
unfolding set_below
set_lt zero f = omega arith
set_lt (suc n) f = put_lt n (f n) (set_below n f) (set_lt n f)

-- its bits are what it was made from
pub bit_set : (n i : ℕ) (f : ℕ → Bool) → i < n → bit_at i (set_below n f) ≡ f i
unfolding set_below
bit_set zero i f h = absurd (omega arith)
bit_set (suc n) i f h =
    ⊎_elim (λ (e : i ≡ n). ap (λ (k : ℕ). bit_at k (put n (f n) (set_below n f))) e ∙ put_high n (f n) (set_below n f) (set_lt n f) ∙ ap f (sym e))
    (λ d. let l : i < n = omega arith in
    put_low i n (f n) (set_below n f) l (set_lt n f) ∙ bit_set n i f l)
    (cases_eq i n)

-- equal bits, equal numbers
pub set_cong : (n : ℕ) (f g : ℕ → Bool) → ((k : ℕ) → k < n → f k ≡ g k) → set_below n f ≡ set_below n g
unfolding set_below
set_cong zero f g h = refl
set_cong (suc n) f g h =
    ap₂ (λ (b : Bool) (r : ℕ). put n b r) (h n (omega arith)) (set_cong n f g (λ k l. h k (omega arith)))

-- the loop that makes such a number: at its start,
pub set_none : (f : ℕ → Bool) → 0 ≡ set_below 0 f
unfolding set_below
set_none f = refl

-- `w |= 1 << i`, where w has the members below i
pub set_more : (i w : ℕ) (f : ℕ → Bool) → i < 8 → w ≡ set_below i f → f i ≡ true → bit_or w ((1 * 2 ^ i) % 256) ≡ set_below (i + 1) f
unfolding set_below
set_more i w f h e t =
    ap₂ (λ (x y : ℕ). bit_or x y) e (shl_exact 1 i 8 (lit< tt) (omega arith))
    ∙ or_shifted_r 1 i (set_below i f) (set_lt i f)
    ∙ ap₂ (λ (x : ℕ) (b : Bool). x + set_below i f) (one-mul (2 ^ i)) t
    ∙ ap (λ (b : Bool). put i b (set_below i f)) (sym t)
    ∙ ap (λ (k : ℕ). set_below k f) (sym (add-one i))

-- and where bit i is not set
pub set_skip : (i w : ℕ) (f : ℕ → Bool) → w ≡ set_below i f → f i ≡ false → w ≡ set_below (i + 1) f
unfolding set_below
set_skip i w f e t =
    e ∙ sym (zero-add (set_below i f)) ∙ ap (λ (b : Bool). put i b (set_below i f)) (sym t) ∙ ap (λ (k : ℕ). set_below k f) (sym (add-one i))

-- a number is the set of its members
pub same_bits : (n x y : ℕ) → x < 2 ^ n → y < 2 ^ n → ((k : ℕ) → k < n → bit_at k x ≡ bit_at k y) → x ≡ y
same_bits zero x y h l e = omega arith
same_bits (suc n) x y h l e =
    let (b, r, m, p) = put_all n x h in
    let (d, s, k, q) = put_all n y l in
    let top : b ≡ d =
    sym (put_high n b r m) ∙ ap (bit_at n) p ∙ e n (omega arith) ∙ ap (bit_at n) (sym q) ∙ put_high n d s k in
    let rest : r ≡ s =
    same_bits n r s m k (λ j i.
    sym (put_low j n b r i m) ∙ ap (bit_at j) p ∙ e j (omega arith) ∙ ap (bit_at j) (sym q) ∙ put_low j n d s i k) in
    sym p ∙ ap₂ (λ (c : Bool) (t : ℕ). put n c t) top rest ∙ q
