-- The places of a set that the worth of a list is. Assumes nothing.
use Rattle.std.proofs.Common.{◌≡◌, ℕ, zero, suc, ◌+◌, ◌*◌, ◌/◌, ◌%◌, ◌^◌, ◌<◌, ◌≤◌, min, Bool, true, false, cond, eqb, List, [], ◌∷◌, length, get_or, take, sym, refl, ap, ◌∙◌, ap₂, mul_assoc, one-mul, mul-zero, mul-one, mul-add, div-one, arith, pow-add}
use native.Mathlib.Nat.{div-div-eq-div-mul, pow-succ'}
use Rattle.std.proofs.Math.Nat.{div-eq_of_lt, pow-le-pow_right}
use lib.Bits.{bit_and, and_step}
use Rattle.std.proofs.lemmas.List.{get_or-take, length-take}
use Rattle.std.proofs.lemmas.Bool.{eq-eqb, ne_eqb}
use Rattle.readings.specs.Meaning.{worth, is_on, in_doubt}
use Rattle.readings.specs.declared.mark.Mark.{Mark}
use Rattle.readings.specs.declared.mark.Mark.TheVariants.{Off, On, Doubt}

-- the set of the places that pass, from its lowest place on
bits : (ℕ → Bool) → List ℕ → ℕ
bits p [] = 0
bits p (n ∷ ns) = cond (p n) 1 0 + 2 * bits p ns

doubled : (b : Bool) (w x : ℕ) → cond b w 0 + w * 2 * x ≡ w * (cond b 1 0 + 2 * x)
doubled true w x = ap₂ ◌+◌ (sym (mul-one w)) (mul_assoc w 2 x) ∙ sym (mul-add w 1 (2 * x))
doubled false w x = ap₂ ◌+◌ (sym (mul-zero w)) (mul_assoc w 2 x) ∙ sym (mul-add w 0 (2 * x))

worth_bits : (p : ℕ → Bool) (k : ℕ) (ns : List ℕ) → worth p k ns ≡ 2 ^ k * bits p ns
unfolding worth bits
worth_bits p k [] = omega arith
worth_bits p k (n ∷ ns) =
    let twice : 2 ^ (k + 1) ≡ 2 ^ k * 2 = pow-add 2 k 1 in
    ap (λ v. cond (p n) (2 ^ k) 0 + v) (worth_bits p (k + 1) ns ∙ ap (λ w. w * bits p ns) twice) ∙ doubled (p n) (2 ^ k) (bits p ns)

worth_whole : (p : ℕ → Bool) (ns : List ℕ) → worth p 0 ns ≡ bits p ns
worth_whole p ns = worth_bits p 0 ns ∙ one-mul (bits p ns)

low : (b : Bool) (x : ℕ) → eqb ((cond b 1 0 + 2 * x) % 2) 1 ≡ b
low true x = eq-eqb ((1 + 2 * x) % 2) 1 (omega arith)
low false x = ne_eqb ((0 + 2 * x) % 2) 1 (λ e. omega arith)

half : (b : Bool) (x : ℕ) → (cond b 1 0 + 2 * x) / 2 ≡ x
half true x = omega arith
half false x = omega arith

bit : (p : ℕ → Bool) (ns : List ℕ) (i : ℕ) → i < length ns → eqb (bits p ns / 2 ^ i % 2) 1 ≡ p (get_or ns i 0)
unfolding bits
bit p [] i h = absurd (omega arith)
bit p (n ∷ ns) zero h = ap (λ v. eqb (v % 2) 1) (div-one (bits p (n ∷ ns))) ∙ low (p n) (bits p ns)
bit p (n ∷ ns) (suc i) h =
    let down : bits p (n ∷ ns) / 2 ^ suc i ≡ bits p ns / 2 ^ i = ap (λ w. bits p (n ∷ ns) / w) (pow-succ' 2 i) ∙ sym (div-div-eq-div-mul (bits p (n ∷ ns)) 2 (2 ^ i)) ∙ ap (λ v. v / 2 ^ i) (half (p n) (bits p ns)) in
    ap (λ v. eqb (v % 2) 1) down ∙ bit p ns i (omega arith)

-- place i is in the set if its number passes
pub worth_place : (p : ℕ → Bool) (ns : List ℕ) (i : ℕ) → i < 8 → i < length ns → eqb (worth p 0 (take 8 ns) / 2 ^ i % 2) 1 ≡ p (get_or ns i 0)
worth_place p ns i few here =
    let within : i < length (take 8 ns) = omega (arith, length-take 8 ns) in
    ap (λ v. eqb (v / 2 ^ i % 2) 1) (worth_whole p (take 8 ns)) ∙ bit p (take 8 ns) i within ∙ ap p (get_or-take 8 ns i 0 few)

-- a byte has no place from 8 on
pub no_place : (set i : ℕ) → set < 256 → 8 ≤ i → eqb (set / 2 ^ i % 2) 1 ≡ false
no_place set i byte high =
    let small : set < 2 ^ i = omega (arith, byte, pow-le-pow_right {n = 2} (omega arith) high) in
    ap (λ v. eqb (v % 2) 1) (div-eq_of_lt small)

lows : (k : Mark) (x y : ℕ) → min ((cond (is_on k) 1 0 + 2 * x) % 2) ((cond (in_doubt k) 1 0 + 2 * y) % 2) ≡ 0
lows Off x y = omega arith
lows On x y = omega arith
lows Doubt x y = omega arith

-- a mark is not both on and in doubt
one_apart : (k : Mark) (x y : ℕ) → bit_and x y ≡ 0 → bit_and (cond (is_on k) 1 0 + 2 * x) (cond (in_doubt k) 1 0 + 2 * y) ≡ 0
one_apart k x y e =
    let halves = ap₂ bit_and (half (is_on k) x) (half (in_doubt k) y) ∙ e in
    let step = and_step (cond (is_on k) 1 0 + 2 * x) (cond (in_doubt k) 1 0 + 2 * y) in
    step ∙ ap₂ (λ a b. a * 2 + b) halves (lows k x y)

bits_apart : (f : ℕ → Mark) (ns : List ℕ) → bit_and (bits (λ n. is_on (f n)) ns) (bits (λ n. in_doubt (f n)) ns) ≡ 0
unfolding bits
bits_apart f [] = refl
bits_apart f (n ∷ ns) = one_apart (f n) (bits (λ n. is_on (f n)) ns) (bits (λ n. in_doubt (f n)) ns) (bits_apart f ns)

-- no place is both on and in doubt
pub sets_apart : (f : ℕ → Mark) (ns : List ℕ) → bit_and (worth (λ n. is_on (f n)) 0 ns) (worth (λ n. in_doubt (f n)) 0 ns) ≡ 0
sets_apart f ns = ap₂ bit_and (worth_whole (λ n. is_on (f n)) ns) (worth_whole (λ n. in_doubt (f n)) ns) ∙ bits_apart f ns
