-- The worth of a list's places, one place at a time. Assumes nothing.
use Rattle.std.proofs.Common.{◌≡◌, ℕ, suc, ◌+◌, ◌^◌, ◌<◌, ◌≤◌, min, Bool, true, false, cond, List, [], ◌∷◌, ◌++◌, length, get_or, take, sym, refl, ap, ◌∙◌, ap₂, ⊎_elim, arith, pow-add}
use Rattle.std.proofs.lemmas.Bool.{cases_lt}
use Rattle.std.proofs.lemmas.List.{take_more, length-take-le, take_all}
use Rattle.readings.specs.Meaning.{worth}

pub worth_push : (p : ℕ → Bool) (k : ℕ) (xs : List ℕ) (x : ℕ) → worth p k (xs ++ x ∷ []) ≡ worth p k xs + cond (p x) (2 ^ (k + length xs)) 0
unfolding worth
worth_push p k [] x =
    let same : k ≡ k + 0 = omega arith in
    let e = ap (λ n. cond (p x) (2 ^ n) 0) same in
    omega (arith, e)
worth_push p k (y ∷ xs) x =
    let same : k + 1 + length xs ≡ k + length (y ∷ xs) = omega arith in
    let e = ap (λ n. cond (p x) (2 ^ n) 0) same in
    omega (arith, e, worth_push p (k + 1) xs x)

-- one place more
pub worth_next : (p : ℕ → Bool) (xs : List ℕ) (i w v : ℕ) → i < length xs → w ≡ 2 ^ i → v ≡ worth p 0 (take i xs) → v + cond (p (get_or xs i 0)) w 0 ≡ worth p 0 (take (i + 1) xs)
worth_next p xs i w v within is so =
    let long : 0 + length (take i xs) ≡ i = omega (arith, length-take-le i xs (omega arith)) in
    let e = ap (λ n. cond (p (get_or xs i 0)) (2 ^ n) 0) long in
    let f = ap (λ n. cond (p (get_or xs i 0)) n 0) is in
    let g = ap (worth p 0) (take_more xs i 0 within) in
    omega (arith, e, f, g, worth_push p 0 (take i xs) (get_or xs i 0), so)

pub cond_most : (b : Bool) (w : ℕ) → cond b w 0 ≤ w
cond_most true w = omega arith
cond_most false w = omega arith

-- the first eight, or all where there are fewer
pub first_eight : (xs : List ℕ) (i : ℕ) → min (length xs) 8 ≤ i → i ≤ min (length xs) 8 → take i xs ≡ take 8 xs
first_eight xs i least most =
    ⊎_elim (λ (h : length xs < 8). take_all i xs (omega arith) ∙ sym (take_all 8 xs (omega arith))) (λ (h : 8 ≤ length xs). let e : i ≡ 8 = omega arith in ap (λ n. take n xs) e) (cases_lt (length xs) 8)

-- tests that agree on the list make the same set
pub worth_same : (p q : ℕ → Bool) (k : ℕ) (xs : List ℕ) → ((i : ℕ) → i < length xs → p (get_or xs i 0) ≡ q (get_or xs i 0)) → worth p k xs ≡ worth q k xs
unfolding worth
worth_same p q k [] e = refl
worth_same p q k (x ∷ xs) e = ap₂ (λ b v. cond b (2 ^ k) 0 + v) (e 0 (omega arith)) (worth_same p q (k + 1) xs (λ i h. e (suc i) (omega arith)))

pub worth_none : (p : ℕ → Bool) (k : ℕ) (xs : List ℕ) → ((n : ℕ) → p n ≡ false) → worth p k xs ≡ 0
unfolding worth
worth_none p k [] e = refl
worth_none p k (x ∷ xs) e = ap₂ (λ b v. cond b (2 ^ k) 0 + v) (e x) (worth_none p (k + 1) xs e)

-- a set of eight places is a byte
pub worth_below : (p : ℕ → Bool) (k : ℕ) (xs : List ℕ) → worth p k xs + 2 ^ k ≤ 2 ^ (k + length xs)
unfolding worth
worth_below p k [] = let same : k ≡ k + 0 = omega arith in omega (arith, ap (λ n. 2 ^ n) same)
worth_below p k (x ∷ xs) =
    let same : k + 1 + length xs ≡ k + length (x ∷ xs) = omega arith in
    omega (arith, ap (λ n. 2 ^ n) same, pow-add 2 k 1, cond_most (p x) (2 ^ k), worth_below p (k + 1) xs)
