use Rattle.std.proofs.Common.{ℕ, ◌-◌, Bool, ◌&&◌, sym, ap, ◌∙◌, ap₂, arith}
use Rattle.polynomials.specs.Held.{vectors_of}
use Rattle.polynomials.specs.Polynomial.{value_in}
use Rattle.polynomials.specs.Sets.{◌⊕◌, bit_at, set_below}
use Rattle.polynomials.proofs.Halves.{word_halves, word_none, word_one, half_fits}
use Rattle.polynomials.proofs.Digits.{bit_set}
use Rattle.polynomials.proofs.substitute.+in_word.Goals as goal

pub returns-then-w-eq0 : goal.returns-then-w-eq0
returns-then-w-eq0 t c v l = c.empty.ensures v ∙ sym (word_none c.args.n c.args.w _ (omega arith))

pub returns-then-n-eq0 : goal.returns-then-n-eq0
returns-then-n-eq0 t c v l =
    c.full.ensures v l ∙ sym (word_one c.args.n c.args.w _ (omega arith) (omega arith) (λ e. omega arith))

pub in_word-high-requires : goal.in_word-high-requires
in_word-high-requires t c = (
  omega arith,
  (
    omega arith,
    half_fits c.args.n (c.args.n - 1) c.power-half.result c.args.w (omega arith) (omega arith) (omega arith),
  ),
)

pub returns : goal.returns
returns t c v l =
    let m : ℕ = c.args.n - 1 in
    let f : ℕ → Bool = λ i. vectors_of c.args.tables.now i v in
    let u : ℕ = set_below 8 f in
    c.branch-low.ensures v
    ∙ ap₂ ◌⊕◌
    (c.in_word-low.ensures v l ∙ ap (λ (x : ℕ). value_in m (λ s. bit_at s x) u) c.low_bits.ensures)
    (ap₂ ◌&&◌ (sym (bit_set 8 m f (omega arith))) (c.in_word-high.ensures v l))
    ∙ sym (word_halves c.args.n m c.power-half.result c.args.w u (omega arith) (omega arith))
