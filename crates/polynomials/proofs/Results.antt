-- What the methods give, from what the words hold.
use Rattle.std.proofs.Common.{◌≡◌, ℕ, ◌<◌, Bool, true, false, ◌&&◌, eqb, Decides, sym, refl, ap, ◌∙◌, arith}
use Rattle.polynomials.specs.declared.bits.Bits256.{Bits256}
use Rattle.polynomials.specs.declared.residual.Residual.{Residual}
use Rattle.polynomials.specs.declared.vectors.VectorSet.{VectorSet}
use Rattle.polynomials.specs.Held.{holds, terms, vectors, no_bits}
use Rattle.polynomials.specs.Sets.{◌⊕◌, in_set}
use Rattle.polynomials.specs.Polynomial.{Polynomial, one, variable, sum, product, substitute, value, step}
use Rattle.polynomials.proofs.Sums.{eqb_comm}
use Rattle.polynomials.proofs.FourWords.{Fit, equal_bits, none_held}
use Rattle.polynomials.proofs.Values.{in_cong}
use Rattle.polynomials.proofs.Valued.{value_sum, value_product, value_substitute, value_value, value_variable, unique}

-- ---- one, and a variable

pub one_is : (s : ℕ) → eqb 0 s ≡ one s
unfolding one
one_is s = eqb_comm 0 s

-- what has the terms of a variable has its values
pub values_of_variable : (x : Bits256) (i : ℕ) → ((s : ℕ) → s < 256 → holds x s ≡ variable i s)
    → (v : ℕ) → v < 256 → value (holds x) v ≡ in_set i v
values_of_variable x i exact v l = in_cong 8 (holds x) (variable i) v exact ∙ value_variable i v l

-- ---- sum and product

pub values_of_sum : (x y z : Bits256) → ((s : ℕ) → holds z s ≡ (holds x s ⊕ holds y s))
    → (v : ℕ) → value (holds z) v ≡ (value (holds x) v ⊕ value (holds y) v)
unfolding sum
values_of_sum x y z each v = in_cong 8 (holds z) (sum (holds x) (holds y)) v (λ s l. each s) ∙ value_sum (holds x) (holds y) v

-- a polynomial is known by its values
pub terms_of_product : (x y z : Bits256) → ((v : ℕ) → v < 256 → value (holds z) v ≡ (value (holds x) v && value (holds y) v))
    → (s : ℕ) → s < 256 → holds z s ≡ product (holds x) (holds y) s
terms_of_product x y z each =
    unique (holds z) (product (holds x) (holds y)) (λ v l. each v l ∙ sym (value_product (holds x) (holds y) v))

pub values_of_product : (x y z : Bits256) → ((v : ℕ) → v < 256 → value (holds z) v ≡ (value (holds x) v && value (holds y) v))
    → (v : ℕ) → value (holds z) v ≡ (value (holds x) v && value (holds y) v)
values_of_product x y z each v =
    in_cong 8 (holds z) (product (holds x) (holds y)) v (terms_of_product x y z each) ∙ value_product (holds x) (holds y) v

-- ---- from values to products

-- the transform y of x has the values of x
pub values_back : (x y : Bits256) → ((v : ℕ) → v < 256 → holds y v ≡ value (holds x) v)
    → (v : ℕ) → v < 256 → value (holds y) v ≡ holds x v
values_back x y made v l = in_cong 8 (holds y) (value (holds x)) v made ∙ value_value (holds x) v l

pub only_one : (x y : Bits256) → ((v : ℕ) → v < 256 → holds y v ≡ value (holds x) v)
    → (P : Polynomial) → ((v : ℕ) → v < 256 → value P v ≡ holds x v) → (s : ℕ) → s < 256 → holds y s ≡ P s
only_one x y made P same s l = made s l ∙ in_cong 8 (holds x) (value P) s (λ v k. sym (same v k)) ∙ value_value P s l

-- ---- substitution

pub values_of_substitute : (x z : Bits256) (P : ℕ → Polynomial) → ((s : ℕ) → s < 256 → holds z s ≡ substitute (holds x) P s)
    → (v : ℕ) → value (holds z) v ≡ value (holds x) (step P v)
values_of_substitute x z P exact v = in_cong 8 (holds z) (substitute (holds x) P) v exact ∙ value_substitute (holds x) P v

-- ---- equal bits

pub equal_by_values : (x y : Residual) → Fit x.bits → Fit y.bits → ((v : ℕ) → v < 256 → value (terms x) v ≡ value (terms y) v) → x ≡ y
equal_by_values x y f g same =
    let e = equal_bits x.bits y.bits f g (unique (terms x) (terms y) same) in λ i. record { bits = e i }

pub equal_sets : (x y : VectorSet) → Fit x.bits → Fit y.bits → ((v : ℕ) → v < 256 → vectors x v ≡ vectors y v) → x ≡ y
equal_sets x y f g same = let e = equal_bits x.bits y.bits f g same in λ i. record { bits = e i }

pub same_values : (x y : Residual) → Fit x.bits → Fit y.bits → (r : Bool) → Decides r (x ≡ y)
    → Decides r ((v : ℕ) → v < 256 → value (terms x) v ≡ value (terms y) v)
same_values x y f g r (to, from) =
    ((λ t v l. ap (λ (z : Residual). value (terms z) v) (to t)), (λ h. from (equal_by_values x y f g h)))

-- no word has a bit
pub empty_is : (x : VectorSet) → Fit x.bits → (r : Bool) → Decides r (x.bits ≡ no_bits) → Decides r ((v : ℕ) → vectors x v ≡ false)
empty_is x f r (to, from) = (
  (λ t v. ap (λ (w : Bits256). holds w v) (to t) ∙ none_held v),
  (λ h. from (equal_bits x.bits no_bits f (omega arith) (λ s l. h s ∙ sym (none_held s)))),
)

-- z is what x and y share
module _ (x y z : VectorSet) (both : (v : ℕ) → vectors z v ≡ (vectors x v && vectors y v)) (r : Bool) where
  pub within_is : Fit x.bits → Fit z.bits → Decides r (z ≡ x) → Decides r ((v : ℕ) → vectors x v ≡ true → vectors y v ≡ true)
  within_is f g (to, from) = (
    (λ t v i. ap (λ (b : Bool). b && vectors y v) (sym i) ∙ sym (both v) ∙ ap (λ (w : VectorSet). vectors w v) (to t) ∙ i),
    (λ h. from (equal_sets z x g f (λ s l. both s ∙ keeps (vectors x s) (vectors y s) (h s)))),
  )
    where
      keeps : (a b : Bool) → (a ≡ true → b ≡ true) → (a && b) ≡ a
      keeps true b h = h refl
      keeps false b h = refl

  pub disjoint_is : Decides r ((v : ℕ) → vectors z v ≡ false) → Decides r ((v : ℕ) → vectors x v ≡ true → vectors y v ≡ false)
  disjoint_is (to, from) = (
    (λ t v i. ap (λ (b : Bool). b && vectors y v) (sym i) ∙ sym (both v) ∙ to t v),
    (λ h. from (λ v. both v ∙ drops (vectors x v) (vectors y v) (h v))),
  )
    where
      drops : (a b : Bool) → (a ≡ true → b ≡ false) → (a && b) ≡ false
      drops true b h = h refl
      drops false b h = refl
