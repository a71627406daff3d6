-- A polynomial's value from the values of its four words: the two highest variables say which words count.
use Rattle.std.proofs.Common.{◌≡◌, ℕ, ◌+◌, ◌<◌, Bool, true, false, ◌&&◌, sym, ap, ◌∙◌, subst, ap₂, arith}
use lib.Bits.{bit_xor}
use Rattle.polynomials.specs.declared.bits.Bits256.{Bits256}
use Rattle.polynomials.specs.Held.{word_of, holds}
use Rattle.polynomials.specs.Polynomial.{Polynomial, value_in, value}
use Rattle.polynomials.specs.Sets.{◌⊕◌, bit_at}
use Rattle.polynomials.proofs.Sums.{xor_false}
use Rattle.polynomials.proofs.Digits.{put, put_all, put_lt, put_low, put_high, bit_xor_lem}
use Rattle.polynomials.proofs.Values.{in_cong, in_bits, in_top}
use Rattle.polynomials.proofs.FourWords.{place}

-- from the two highest variables, p of the higher, and a value for each word
abbrev pub mixed : Bool → Bool → Bool → Bool → Bool → Bool → Bool
mixed p q a b c d = (a ⊕ (q && b)) ⊕ (p && (c ⊕ (q && d)))

-- word q as a polynomial in the six lowest variables
abbrev pub word_poly : Bits256 → ℕ → Polynomial
word_poly x q s = bit_at s (word_of x q)

-- by halves on the highest variable, and each half on the next
pub four_words : (x : Bits256) (u : ℕ)
    → value (holds x) u
    ≡ mixed (bit_at 7 u) (bit_at 6 u) (value_in 6 (word_poly x 0) u) (value_in 6 (word_poly x 1) u) (value_in 6 (word_poly x 2) u) (value_in 6 (word_poly x 3) u)
four_words x u =
    in_top 7 (holds x) u
    ∙ ap₂ (λ (a b : Bool). a ⊕ (bit_at 7 u && b))
    (in_top 6 (holds x) u
    ∙ ap₂ (λ (a b : Bool). a ⊕ (bit_at 6 u && b))
    (in_cong 6 (holds x) (word_poly x 0) u (λ s l. place x s 0 s (omega arith) (omega arith)))
    (in_cong 6 (λ s. holds x (64 + s)) (word_poly x 1) u (λ s l. place x (64 + s) 1 s (omega arith) (omega arith))))
    (in_top 6 (λ s. holds x (128 + s)) u
    ∙ ap₂ (λ (a b : Bool). a ⊕ (bit_at 6 u && b))
    (in_cong 6 (λ s. holds x (128 + s)) (word_poly x 2) u (λ s l. place x (128 + s) 2 s (omega arith) (omega arith)))
    (in_cong 6 (λ s. holds x (128 + (64 + s))) (word_poly x 3) u (λ s l. place x (128 + (64 + s)) 3 s (omega arith) (omega arith))))

-- ---- the transform: the values of each word, mixed

module _ (x : Bits256) (a b c d : ℕ)
    (first : (k : ℕ) → k < 64 → bit_at k a ≡ value_in 6 (word_poly x 0) k)
    (second : (k : ℕ) → k < 64 → bit_at k b ≡ value_in 6 (word_poly x 1) k)
    (third : (k : ℕ) → k < 64 → bit_at k c ≡ value_in 6 (word_poly x 2) k)
    (fourth : (k : ℕ) → k < 64 → bit_at k d ≡ value_in 6 (word_poly x 3) k) where
  -- the four words that the code makes
  out : Bits256
  out = record { a = a; b = bit_xor a b; c = bit_xor a c; d = bit_xor (bit_xor a b) (bit_xor c d) }

  -- the words that are made, by the two highest bits of a place
  made : (p q : Bool) (k : ℕ) → k < 64 → holds out (put 7 p (put 6 q k)) ≡ mixed p q (bit_at k a) (bit_at k b) (bit_at k c) (bit_at k d)
  unfolding out
  made false false k l =
      place out (put 7 false (put 6 false k)) 0 k (omega arith) (omega arith) ∙ sym (xor_false (bit_at k a)) ∙ sym (xor_false (bit_at k a ⊕ false))
  made false true k l =
      place out (put 7 false (put 6 true k)) 1 k (omega arith) (omega arith) ∙ bit_xor_lem k a b ∙ sym (xor_false (bit_at k a ⊕ bit_at k b))
  made true false k l =
      place out (put 7 true (put 6 false k)) 2 k (omega arith) (omega arith)
      ∙ bit_xor_lem k a c ∙ ap₂ ◌⊕◌ (sym (xor_false (bit_at k a))) (sym (xor_false (bit_at k c)))
  made true true k l =
      place out (put 7 true (put 6 true k)) 3 k (omega arith) (omega arith)
      ∙ bit_xor_lem k (bit_xor a b) (bit_xor c d) ∙ ap₂ ◌⊕◌ (bit_xor_lem k a b) (bit_xor_lem k c d)

  -- each has the value at its place
  at_place : (p q : Bool) (k : ℕ) → k < 64 → holds out (put 7 p (put 6 q k)) ≡ value (holds x) (put 7 p (put 6 q k))
  at_place p q k l =
      let u : ℕ = put 7 p (put 6 q k) in
      let below : put 6 q k < 128 = put_lt 6 q k l in
      let seventh : bit_at 7 u ≡ p = put_high 7 p (put 6 q k) below in
      let sixth : bit_at 6 u ≡ q = put_low 6 7 p (put 6 q k) (omega arith) below ∙ put_high 6 q k l in
      let low : (P : Polynomial) → value_in 6 P u ≡ value_in 6 P k
      = λ P. in_bits 6 P u k (λ i h. put_low i 7 p (put 6 q k) (omega arith) below ∙ put_low i 6 q k h l) in
      made p q k l
      ∙ (λ i. mixed p q (first k l i) (second k l i) (third k l i) (fourth k l i))
      ∙ sym (four_words x u
      ∙ (λ i. mixed (seventh i) (sixth i) (low (word_poly x 0) i) (low (word_poly x 1) i) (low (word_poly x 2) i) (low (word_poly x 3) i)))

  -- and every place below 256 is such a place
  pub transformed_is : (v : ℕ) → v < 256
      → holds (record { a = a; b = bit_xor a b; c = bit_xor a c; d = bit_xor (bit_xor a b) (bit_xor c d) }) v ≡ value (holds x) v
  unfolding out
  transformed_is v h =
      let (p, u, l, e) = put_all 7 v h in
      let (q, k, m, f) = put_all 6 u l in
      subst (λ (y : ℕ). holds out y ≡ value (holds x) y) (ap (put 7 p) f ∙ e) (at_place p q k m)
