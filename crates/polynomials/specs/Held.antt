-- What 256 bits in four words hold: the terms of a residual, and the vectors of a set. Assumes nothing.
use Rattle.std.specs.Prelude.{ℕ, zero, suc, ◌/◌, ◌%◌, Bool, List, slice_index_or}
use Rattle.polynomials.specs.declared.bits.Bits256.{Bits256}
use Rattle.polynomials.specs.declared.residual.Residual.{Residual}
use Rattle.polynomials.specs.declared.vectors.VectorSet.{VectorSet}
use Rattle.polynomials.specs.Polynomial.{Polynomial}
use Rattle.polynomials.specs.Sets.{bit_at}

-- word q; past the fourth there is nothing
abbrev pub word_of : Bits256 → ℕ → ℕ
word_of x zero = x.a
word_of x (suc zero) = x.b
word_of x (suc (suc zero)) = x.c
word_of x (suc (suc (suc zero))) = x.d
word_of x (suc (suc (suc (suc q)))) = 0

-- whether bit s is set
unfoldable pub holds : Bits256 → ℕ → Bool
holds x s = bit_at (s % 64) (word_of x (s / 64))

-- whether product s is a term
abbrev pub terms : Residual → Polynomial
terms r = holds r.bits

-- whether vector v is in the set
abbrev pub vectors : VectorSet → ℕ → Bool
vectors t = holds t.bits

-- no bit set
abbrev pub no_bits : Bits256
no_bits = record { a = 0; b = 0; c = 0; d = 0 }

-- the same of the i-th of a list, which has nothing past its end
abbrev pub terms_of : List Residual → ℕ → Polynomial
terms_of rs i = terms (slice_index_or rs i (record { bits = no_bits }))

abbrev pub vectors_of : List VectorSet → ℕ → ℕ → Bool
vectors_of ts i = vectors (slice_index_or ts i (record { bits = no_bits }))

-- P holds of each word of x, that of y and that of z
pub record EachWord (P : ℕ → ℕ → ℕ → Type 0) (x y z : Bits256) : Type 0 where
  pub a : P x.a y.a z.a
  pub b : P x.b y.b z.b
  pub c : P x.c y.c z.c
  pub d : P x.d y.d z.d
