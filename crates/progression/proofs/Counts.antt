-- Counting and finding the numbers that pass a test. Assumes nothing.
use Rattle.std.proofs.Common.{◌≡◌, ℕ, zero, suc, ◌+◌, ◌<◌, ◌≤◌, Bool, true, false, cond, ◌&&◌, ◌||◌, eqb, List, length, get_or, take, sym, refl, ap, ◌∙◌, subst, ap₂, ⊎_elim, not-suc-le-zero, add-one, arith}
use Rattle.std.proofs.lemmas.Bool.{eq-eqb, ne_eqb, or_left, or_right, and_right, cases_eq, cond-true, cond-false}
use Rattle.std.specs.List.{list_any}
use Rattle.std.proofs.lemmas.List.{take_all}
use Rattle.std.proofs.lemmas.List.Folds.{list_any_more}
use Rattle.progression.specs.Obligations.{any_below, count_below, nth_below}

pub any_at : (n : ℕ) (f : ℕ → Bool) (k : ℕ) → k < n → f k ≡ true → any_below n f ≡ true
unfolding any_below
any_at zero f k h e = absurd (not-suc-le-zero h)
any_at (suc n) f k h e =
    ⊎_elim (λ (s : k ≡ n). or_right (any_below n f) (f n) (ap f (sym s) ∙ e))
    (λ (d : k ≡ n → ⊥). or_left (any_below n f) (f n) (any_at n f k (omega arith) e)) (cases_eq k n)

-- a test of each element of a list
any_taken : {A : Type 0} (p : A → Bool) (xs : List A) (d : A) (n : ℕ) → n ≤ length xs → list_any p (take n xs) ≡ any_below n (λ k. p (get_or xs k d))
unfolding any_below
any_taken p xs d zero h = refl
any_taken p xs d (suc n) h =
    ap (λ (k : ℕ). list_any p (take k xs)) (sym (add-one n))
    ∙ list_any_more p xs n d (omega arith)
    ∙ ap (λ (b : Bool). b || p (get_or xs n d)) (any_taken p xs d n (omega arith))

pub any_listed : {A : Type 0} (p : A → Bool) (xs : List A) (d : A) → list_any p xs ≡ any_below (length xs) (λ k. p (get_or xs k d))
any_listed p xs d = ap (list_any p) (sym (take_all (length xs) xs (omega arith))) ∙ any_taken p xs d (length xs) (omega arith)

count_up : (b : Bool) (c : ℕ) → c ≤ cond b (c + 1) c
count_up true c = omega arith
count_up false c = omega arith

pub count_mono : (f : ℕ → Bool) (j n : ℕ) → j ≤ n → count_below f j ≤ count_below f n
unfolding count_below
count_mono f j zero h = let z : j ≡ 0 = omega arith in subst (λ (x : ℕ). count_below f x ≤ count_below f 0) (sym z) (omega arith)
count_mono f j (suc n) h =
    ⊎_elim (λ (s : j ≡ suc n). subst (λ (x : ℕ). count_below f x ≤ count_below f (suc n)) (sym s) (omega arith))
    (λ (d : j ≡ suc n → ⊥). omega (arith, count_mono f j n (omega arith), count_up (f n) (count_below f n))) (cases_eq j (suc n))

pub count_one : (f : ℕ → Bool) (n : ℕ) → f n ≡ true → count_below f (suc n) ≡ count_below f n + 1
unfolding count_below
count_one f n e = cond-true (f n) (count_below f n + 1) (count_below f n) e

pub count_lt : (f : ℕ → Bool) (j n : ℕ) → j < n → f j ≡ true → count_below f j < count_below f n
count_lt f j n h e = omega (arith, count_one f j e, count_mono f (suc j) n h)

pub nth_back : (f : ℕ → Bool) (n j : ℕ) → j < n → f j ≡ true → nth_below f n (count_below f j) ≡ j
unfolding nth_below
nth_back f zero j h e = absurd (not-suc-le-zero h)
nth_back f (suc n) j h e =
    ⊎_elim
    (λ (s : j ≡ n). cond-true (f n && eqb (count_below f n) (count_below f j)) n (nth_below f n (count_below f j))
    (ap (λ (b : Bool). b && eqb (count_below f n) (count_below f j)) (ap f (sym s) ∙ e) ∙ eq-eqb (count_below f n) (count_below f j) (ap (count_below f) (sym s)))
    ∙ sym s)
    (λ (d : j ≡ n → ⊥). let low : j < n = omega arith in
    cond-false (f n && eqb (count_below f n) (count_below f j)) n (nth_below f n (count_below f j))
    (and_right (f n) (eqb (count_below f n) (count_below f j)) (ne_eqb (count_below f n) (count_below f j) (λ z. omega (arith, count_lt f j n low e))))
    ∙ nth_back f n j low e)
    (cases_eq j n)

pick_lt : (b : Bool) (n x : ℕ) → x < suc n → cond b n x < suc n
pick_lt true n x h = omega arith
pick_lt false n x h = h

nth_le : (f : ℕ → Bool) (n i : ℕ) → nth_below f n i < suc n
unfolding nth_below
nth_le f zero i = omega arith
nth_le f (suc n) i = omega (arith, pick_lt (f n && eqb (count_below f n) i) n (nth_below f n i) (nth_le f n i))

pub nth_lt : (f : ℕ → Bool) (n i : ℕ) → 1 ≤ n → nth_below f n i < n
unfolding nth_below
nth_lt f zero i h = absurd (not-suc-le-zero h)
nth_lt f (suc n) i h = pick_lt (f n && eqb (count_below f n) i) n (nth_below f n i) (nth_le f n i)

-- one step of a loop

pub count_none : (f : ℕ → Bool) → 0 ≡ count_below f 0
unfolding count_below
count_none f = refl

pub count_yes : (f : ℕ → Bool) (n : ℕ) → f n ≡ true → count_below f (n + 1) ≡ count_below f n + 1
count_yes f n e = ap (count_below f) (add-one n) ∙ count_one f n e

pub count_not : (f : ℕ → Bool) (n : ℕ) → f n ≡ false → count_below f (n + 1) ≡ count_below f n
unfolding count_below
count_not f n e = ap (count_below f) (add-one n) ∙ cond-false (f n) (count_below f n + 1) (count_below f n) e

pub nth_new : (f : ℕ → Bool) (n : ℕ) → f n ≡ true → nth_below f (n + 1) (count_below f n) ≡ n
unfolding nth_below
nth_new f n e =
    ap (λ (k : ℕ). nth_below f k (count_below f n)) (add-one n)
    ∙ cond-true (f n && eqb (count_below f n) (count_below f n)) n (nth_below f n (count_below f n))
    (ap₂ ◌&&◌ e (eq-eqb (count_below f n) (count_below f n) refl))

pub nth_old : (f : ℕ → Bool) (n i : ℕ) → i < count_below f n → nth_below f (n + 1) i ≡ nth_below f n i
unfolding nth_below
nth_old f n i l =
    ap (λ (k : ℕ). nth_below f k i) (add-one n)
    ∙ cond-false (f n && eqb (count_below f n) i) n (nth_below f n i)
    (and_right (f n) (eqb (count_below f n) i) (ne_eqb (count_below f n) i (λ z. omega arith)))
