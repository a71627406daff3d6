use Rattle.std.proofs.Common.{◌≡◌, ℕ, Bool, ◌&&◌, sym, ap, ◌∙◌, ap₂, arith}
use Rattle.polynomials.specs.Held.{terms, vectors_of}
use Rattle.polynomials.specs.Polynomial.{Polynomial, value, substitute, step}
use Rattle.polynomials.specs.Sets.{◌⊕◌, bit_at, set_below}
use Rattle.polynomials.proofs.Digits.{set_cong, bit_set}
use Rattle.polynomials.proofs.Valued.{value_substitute}
use Rattle.polynomials.proofs.WordByWord.{four_words}
use Rattle.polynomials.proofs.residual.Residual.substitute_values.Goals as goal

pub returns : goal.returns
unfolding step
returns c P is =
    let R : Polynomial = terms c.args.self in
    c.to_products.ensures.only (substitute R P) (λ v l.
    let f : ℕ → Bool = λ i. vectors_of c.args.tables.now i v in
    let u : ℕ = set_below 8 f in
    let m6 : f 6 ≡ bit_at 6 u = sym (bit_set 8 6 f (omega arith)) in
    let m7 : f 7 ≡ bit_at 7 u = sym (bit_set 8 7 f (omega arith)) in
    sym (c.branch-low-2.ensures v
    ∙ ap₂ ◌⊕◌
    (c.branch-low.ensures v ∙ ap₂ ◌⊕◌ (c.in_word-a.ensures v l) (ap₂ ◌&&◌ m6 (c.in_word-b.ensures v l)))
    (ap₂ ◌&&◌ m7 (c.branch-high.ensures v ∙ ap₂ ◌⊕◌ (c.in_word-c.ensures v l) (ap₂ ◌&&◌ m6 (c.in_word-d.ensures v l))))
    ∙ sym (four_words c.args.self.bits u)
    ∙ ap (value R) (set_cong 8 f (λ i. value (P i) v) (λ i h. is i v h l))
    ∙ sym (value_substitute R P v)))
