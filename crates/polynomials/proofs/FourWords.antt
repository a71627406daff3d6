-- The bits of four words: where each stands, one that is changed, all of them at once, and words compared by their bits.
use Rattle.std.proofs.Common.{◌≡◌, ℕ, zero, suc, ◌+◌, ◌*◌, ◌/◌, ◌%◌, ◌^◌, ◌<◌, Bool, true, false, cond, ◌&&◌, ◌||◌, eqb, ◌⊎◌, sym, refl, ap, ◌∙◌, ap₂, inl, inr, ⊎_elim, one-mul, arith, pow_pos}
use lib.Bits.{bit_and, bit_or, bit_xor, and_mask}
use Rattle.std.proofs.lemmas.Bool.{cases_eq, eq-eqb, ne_eqb}
use Rattle.polynomials.specs.declared.bits.Bits256.{Bits256}
use Rattle.polynomials.specs.Held.{word_of, holds, no_bits, EachWord}
use Rattle.polynomials.specs.Sets.{◌⊕◌, bit_at, all_below}
use Rattle.polynomials.proofs.Sums.{all_at}
use Rattle.polynomials.proofs.Digits.{bit_or_lem, bit_and_lem, bit_xor_lem, bit_mod, bit_pow, bit_zero, same_bits}

-- ---- where a bit stands

-- `(x >> k) & 1 == 1`
pub tested : (x k : ℕ) → eqb (bit_and (x / 2 ^ k) 1) 1 ≡ bit_at k x
unfolding bit_at
tested x k = ap (λ (n : ℕ). eqb n 1) (and_mask (x / 2 ^ k) 1)

-- so tested, in the word where it stands
pub has_held : (x : Bits256) (s w : ℕ) → w ≡ word_of x (s / 64) → eqb (bit_and (w / 2 ^ (s % 64)) 1) 1 ≡ holds x s
unfolding holds
has_held x s w e = tested w (s % 64) ∙ ap (bit_at (s % 64)) e

-- bit s stands in word s / 64
pub place : (x : Bits256) (s q k : ℕ) → s / 64 ≡ q → s % 64 ≡ k → holds x s ≡ bit_at k (word_of x q)
unfolding holds
place x s q k e f = ap₂ (λ (i j : ℕ). bit_at i (word_of x j)) f e

-- ---- no bit, and all bits

-- no bit is set where all words are 0
pub none_held : (s : ℕ) → holds no_bits s ≡ false
unfolding holds
none_held s = ap (bit_at (s % 64)) (words (s / 64)) ∙ bit_zero (s % 64)
  where
    words : (q : ℕ) → word_of no_bits q ≡ 0
    words zero = refl
    words (suc zero) = refl
    words (suc (suc zero)) = refl
    words (suc (suc (suc zero))) = refl
    words (suc (suc (suc (suc q)))) = refl

-- a word with all 64 bits set: a test that computes
all_set : all_below 64 (λ k. bit_at k 18446744073709551615) ≡ true
unfolding all_below bit_at
all_set = refl

-- every bit set
abbrev pub all_bits : Bits256
all_bits = record { a = 18446744073709551615; b = 18446744073709551615; c = 18446744073709551615; d = 18446744073709551615 }

-- all 256 bits are set where all words are full
pub all_held : (s : ℕ) → s < 256 → holds all_bits s ≡ true
unfolding holds
all_held s l =
    ap (bit_at (s % 64)) (words (s / 64) (omega arith)) ∙ all_at 64 (λ k. bit_at k 18446744073709551615) all_set (s % 64) (omega arith)
  where
    words : (q : ℕ) → q < 4 → word_of all_bits q ≡ 18446744073709551615
    words zero h = refl
    words (suc zero) h = refl
    words (suc (suc zero)) h = refl
    words (suc (suc (suc zero))) h = refl
    words (suc (suc (suc (suc q)))) h = absurd (omega arith)

-- ---- one bit

-- in one word, equal bits are equal places
same_test : (s t : ℕ) → s / 64 ≡ t / 64 → eqb (s % 64) (t % 64) ≡ eqb s t
same_test s t q =
    ⊎_elim (λ (e : s ≡ t). eq-eqb (s % 64) (t % 64) (omega arith) ∙ sym (eq-eqb s t e))
    (λ n. ne_eqb (s % 64) (t % 64) (λ e. n (omega arith)) ∙ sym (ne_eqb s t n))
    (cases_eq s t)

-- `1 << (s % 64)` in word s / 64, and nothing in the others
pub single_held : (y : Bits256) (s t : ℕ)
    → ((j : ℕ) → word_of y j ≡ cond (eqb (s / 64) j) ((1 * 2 ^ (s % 64)) % 2 ^ 64) 0) → holds y t ≡ eqb s t
unfolding holds
single_held y s t words = ap (bit_at (t % 64)) (words (t / 64)) ∙ go (cases_eq (s / 64) (t / 64))
  where
    go : (s / 64 ≡ t / 64) ⊎ (s / 64 ≡ t / 64 → ⊥)
        → bit_at (t % 64) (cond (eqb (s / 64) (t / 64)) ((1 * 2 ^ (s % 64)) % 2 ^ 64) 0) ≡ eqb s t
    go (inl q) =
        ap (λ (b : Bool). bit_at (t % 64) (cond b ((1 * 2 ^ (s % 64)) % 2 ^ 64) 0)) (eq-eqb (s / 64) (t / 64) q)
        ∙ bit_mod (t % 64) 64 (1 * 2 ^ (s % 64)) (omega arith)
        ∙ ap (bit_at (t % 64)) (one-mul (2 ^ (s % 64)))
        ∙ bit_pow (s % 64) (t % 64)
        ∙ same_test s t q
    go (inr d) =
        ap (λ (b : Bool). bit_at (t % 64) (cond b ((1 * 2 ^ (s % 64)) % 2 ^ 64) 0)) (ne_eqb (s / 64) (t / 64) d)
        ∙ bit_zero (t % 64)
        ∙ sym (ne_eqb s t (λ r. d (ap (λ (n : ℕ). n / 64) r)))

-- ---- an operation on words that works bit by bit as f does

module _ (op : ℕ → ℕ → ℕ) (f : Bool → Bool → Bool) (on_bits : (i a b : ℕ) → bit_at i (op a b) ≡ f (bit_at i a) (bit_at i b)) where
  -- word by word
  words : op 0 0 ≡ 0 → (x y z : Bits256) → EachWord (λ a b c. c ≡ op a b) x y z → (q : ℕ) → word_of z q ≡ op (word_of x q) (word_of y q)
  words none x y z each zero = each.a
  words none x y z each (suc zero) = each.b
  words none x y z each (suc (suc zero)) = each.c
  words none x y z each (suc (suc (suc zero))) = each.d
  words none x y z each (suc (suc (suc (suc q)))) = sym none

  -- bit by bit
  pub by_each_word : op 0 0 ≡ 0 → (x y z : Bits256) → EachWord (λ a b c. c ≡ op a b) x y z → (s : ℕ) → holds z s ≡ f (holds x s) (holds y s)
  unfolding holds
  by_each_word none x y z each s =
      ap (bit_at (s % 64)) (words none x y z each (s / 64)) ∙ on_bits (s % 64) (word_of x (s / 64)) (word_of y (s / 64))

-- the three operations
pub words_and : (x y z : Bits256) → EachWord (λ a b c. c ≡ bit_and a b) x y z → (s : ℕ) → holds z s ≡ (holds x s && holds y s)
words_and = by_each_word bit_and ◌&&◌ bit_and_lem refl

pub words_or : (x y z : Bits256) → EachWord (λ a b c. c ≡ bit_or a b) x y z → (s : ℕ) → holds z s ≡ (holds x s || holds y s)
words_or = by_each_word bit_or ◌||◌ bit_or_lem refl

pub words_xor : (x y z : Bits256) → EachWord (λ a b c. c ≡ bit_xor a b) x y z → (s : ℕ) → holds z s ≡ (holds x s ⊕ holds y s)
words_xor = by_each_word bit_xor ◌⊕◌ bit_xor_lem refl

-- ---- words compared

-- words of 64 bits
pub record Fit (x : Bits256) : Type 0 where
  pub a_fits : x.a < 2 ^ 64
  pub b_fits : x.b < 2 ^ 64
  pub c_fits : x.c < 2 ^ 64
  pub d_fits : x.d < 2 ^ 64

-- each word is below 2 ^ 64
word_fits : (x : Bits256) → Fit x → (q : ℕ) → word_of x q < 2 ^ 64
word_fits x f zero = f.a_fits
word_fits x f (suc zero) = f.b_fits
word_fits x f (suc (suc zero)) = f.c_fits
word_fits x f (suc (suc (suc zero))) = f.d_fits
word_fits x f (suc (suc (suc (suc q)))) = pow_pos 64

-- equal bits, equal words
pub equal_bits : (x y : Bits256) → Fit x → Fit y → ((s : ℕ) → s < 256 → holds x s ≡ holds y s) → x ≡ y
equal_bits x y f g same = λ i. record { a = word 0 (omega arith) i; b = word 1 (omega arith) i; c = word 2 (omega arith) i; d = word 3 (omega arith) i }
  where
    word : (q : ℕ) → q < 4 → word_of x q ≡ word_of y q
    word q h = same_bits 64 (word_of x q) (word_of y q) (word_fits x f q) (word_fits y g q)
        (λ k l. sym (place x (64 * q + k) q k (omega arith) (omega arith)) ∙ same (64 * q + k) (omega arith)
        ∙ place y (64 * q + k) q k (omega arith) (omega arith))
