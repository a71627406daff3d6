-- Exclusive-or sums: what holds of each sum over the numbers below n.
use Rattle.std.proofs.Common.{◌≡◌, ℕ, zero, suc, ◌+◌, ◌<◌, ◌≤◌, Bool, true, false, not, ◌&&◌, ◌||◌, eqb, ◌⊎◌, sym, refl, ap, ◌∙◌, ap₂, inl, inr, ⊎_elim, add-zero, add-suc, arith}
use mathlib.Core.Bool.{and-true}
use Rattle.std.proofs.lemmas.Bool.{eq-eqb, ne_eqb, cases_eq, and_parts}
use Rattle.polynomials.specs.Sets.{◌⊕◌, xor_below, all_below}

-- exclusive or is a commutative group, and `and` distributes over it
pub xor_false : (a : Bool) → (a ⊕ false) ≡ a
xor_false true = refl
xor_false false = refl

pub xor_comm : (a b : Bool) → (a ⊕ b) ≡ (b ⊕ a)
xor_comm true true = refl
xor_comm true false = refl
xor_comm false true = refl
xor_comm false false = refl

pub xor_assoc : (a b c : Bool) → ((a ⊕ b) ⊕ c) ≡ (a ⊕ (b ⊕ c))
xor_assoc false b c = refl
xor_assoc true false c = refl
xor_assoc true true true = refl
xor_assoc true true false = refl

pub xor_swap : (a b c d : Bool) → ((a ⊕ b) ⊕ (c ⊕ d)) ≡ ((a ⊕ c) ⊕ (b ⊕ d))
xor_swap a b c d =
    xor_assoc a b (c ⊕ d)
    ∙ ap (λ (x : Bool). a ⊕ x) (sym (xor_assoc b c d) ∙ ap (λ (x : Bool). x ⊕ d) (xor_comm b c) ∙ xor_assoc c b d)
    ∙ sym (xor_assoc a c (b ⊕ d))

pub and_xor : (a b c : Bool) → (a && (b ⊕ c)) ≡ ((a && b) ⊕ (a && c))
and_xor true b c = refl
and_xor false b c = refl

-- equal terms, equal sums
pub sum_cong : (n : ℕ) (f g : ℕ → Bool) → ((k : ℕ) → k < n → f k ≡ g k) → xor_below n f ≡ xor_below n g
unfolding xor_below
sum_cong zero f g h = refl
sum_cong (suc n) f g h = ap₂ ◌⊕◌ (sum_cong n f g (λ k l. h k (omega arith))) (h n (omega arith))

-- nothing adds up to nothing
pub sum_none : (n : ℕ) → xor_below n (λ k. false) ≡ false
unfolding xor_below
sum_none zero = refl
sum_none (suc n) = xor_false (xor_below n (λ k. false)) ∙ sum_none n

-- the sum of sums, term by term
pub sum_add : (n : ℕ) (f g : ℕ → Bool) → xor_below n (λ k. f k ⊕ g k) ≡ (xor_below n f ⊕ xor_below n g)
unfolding xor_below
sum_add zero f g = refl
sum_add (suc n) f g =
    ap (λ (x : Bool). x ⊕ (f n ⊕ g n)) (sum_add n f g) ∙ xor_swap (xor_below n f) (xor_below n g) (f n) (g n)

-- a common factor
pub sum_scale : (n : ℕ) (b : Bool) (f : ℕ → Bool) → xor_below n (λ k. b && f k) ≡ (b && xor_below n f)
sum_scale n true f = refl
sum_scale n false f = sum_none n

-- sums in either order
pub sum_swap : (m n : ℕ) (f : ℕ → ℕ → Bool)
    → xor_below m (λ a. xor_below n (λ b. f a b)) ≡ xor_below n (λ b. xor_below m (λ a. f a b))
unfolding xor_below
sum_swap zero n f = sym (sum_none n)
sum_swap (suc m) n f =
    ap (λ (x : Bool). x ⊕ xor_below n (f m)) (sum_swap m n f) ∙ sym (sum_add n (λ b. xor_below m (λ a. f a b)) (f m))

-- one term: where the test of equality with m stands, only m counts
sum_past : (n m : ℕ) (f : ℕ → Bool) → n ≤ m → xor_below n (λ s. eqb m s && f s) ≡ false
sum_past n m f h =
    sum_cong n (λ s. eqb m s && f s) (λ s. false)
    (λ k l. ap (λ (x : Bool). x && f k) (ne_eqb m k (λ e. omega arith)))
    ∙ sum_none n

-- so the sum is the term at m
pub sum_pick : (n m : ℕ) (f : ℕ → Bool) → m < n → xor_below n (λ s. eqb m s && f s) ≡ f m
unfolding xor_below
sum_pick zero m f h = absurd (omega arith)
sum_pick (suc n) m f h = go (λ l. sum_pick n m f l) (cases_eq m n)
  where
    go : (m < n → xor_below n (λ s. eqb m s && f s) ≡ f m) → (m ≡ n) ⊎ (m ≡ n → ⊥)
        → (xor_below n (λ s. eqb m s && f s) ⊕ (eqb m n && f n)) ≡ f m
    go ih (inl e) =
        ap₂ (λ (x y : Bool). x ⊕ (y && f n)) (sum_past n m f (omega arith)) (eq-eqb m n e) ∙ ap f (sym e)
    go ih (inr d) =
        ap₂ (λ (x y : Bool). x ⊕ (y && f n)) (ih (omega arith)) (ne_eqb m n d) ∙ xor_false (f m)

-- the first m terms, and the next n
pub sum_split : (m n : ℕ) (f : ℕ → Bool) → xor_below (m + n) f ≡ (xor_below m f ⊕ xor_below n (λ k. f (m + k)))
unfolding xor_below
sum_split m zero f = ap (λ (k : ℕ). xor_below k f) (add-zero m) ∙ sym (xor_false (xor_below m f))
sum_split m (suc n) f =
    ap (λ (k : ℕ). xor_below k f) (add-suc m n) ∙ ap (λ (x : Bool). x ⊕ f (m + n)) (sum_split m n f)
    ∙ xor_assoc (xor_below m f) (xor_below n (λ k. f (m + k))) (f (m + n))

-- equal tests, equal answers
pub all_cong : (n : ℕ) (f g : ℕ → Bool) → ((k : ℕ) → k < n → f k ≡ g k) → all_below n f ≡ all_below n g
unfolding all_below
all_cong zero f g h = refl
all_cong (suc n) f g h = ap₂ ◌&&◌ (all_cong n f g (λ k l. h k (omega arith))) (h n (omega arith))

-- where all hold, each holds
pub all_at : (n : ℕ) (f : ℕ → Bool) → all_below n f ≡ true → (k : ℕ) → k < n → f k ≡ true
unfolding all_below
all_at zero f e k l = absurd (omega arith)
all_at (suc n) f e k l =
    let both = and_parts (all_below n f) (f n) e in
    ⊎_elim (λ (x : k ≡ n). ap f x ∙ both.1) (λ d. all_at n f both.0 k (omega arith)) (cases_eq k n)

-- both hold of all where each holds of all
pub all_and : (n : ℕ) (f g : ℕ → Bool) → all_below n (λ i. f i && g i) ≡ (all_below n f && all_below n g)
unfolding all_below
all_and zero f g = refl
all_and (suc n) f g =
    ap (λ (x : Bool). x && (f n && g n)) (all_and n f g) ∙ and_swap (all_below n f) (all_below n g) (f n) (g n)
  where
    and_swap : (a b c d : Bool) → ((a && b) && (c && d)) ≡ ((a && c) && (b && d))
    and_swap true true c d = refl
    and_swap true false true d = refl
    and_swap true false false d = refl
    and_swap false b c d = refl

-- the test of equality either way round
pub eqb_comm : (a b : ℕ) → eqb a b ≡ eqb b a
eqb_comm a b =
    ⊎_elim (λ (e : a ≡ b). eq-eqb a b e ∙ sym (eq-eqb b a (sym e))) (λ d. ne_eqb a b d ∙ sym (ne_eqb b a (λ e. d (sym e))))
    (cases_eq a b)

-- where each holds, all hold
pub all_true : (n : ℕ) (f : ℕ → Bool) → ((k : ℕ) → k < n → f k ≡ true) → all_below n f ≡ true
unfolding all_below
all_true zero f h = refl
all_true (suc n) f h = ap₂ ◌&&◌ (all_true n f (λ k l. h k (omega arith))) (h n (omega arith))

-- where only i is asked about, i decides
pub all_pick : (n i : ℕ) (f : ℕ → Bool) → i < n → all_below n (λ j. not (eqb i j) || f j) ≡ f i
unfolding all_below
all_pick zero i f h = absurd (omega arith)
all_pick (suc n) i f h =
    ⊎_elim
    (λ (e : i ≡ n).
    ap₂ (λ (x y : Bool). x && (not y || f n))
    (all_true n (λ j. not (eqb i j) || f j) (λ k l. ap (λ (x : Bool). not x || f k) (ne_eqb i k (λ x. omega arith)))) (eq-eqb i n e)
    ∙ ap f (sym e))
    (λ d. ap₂ (λ (x y : Bool). x && (not y || f n)) (all_pick n i f (omega arith)) (ne_eqb i n d) ∙ and-true (f i))
    (cases_eq i n)
