-- A panel: a set is possible just where it spreads to itself. Assumes nothing.
use Rattle.std.proofs.Common.{◌≡◌, ℕ, zero, suc, ◌+◌, ◌-◌, ◌/◌, ◌%◌, ◌<◌, ◌≤◌, min, Bool, true, false, ◌&&◌, eqb, ltb, leb, List, [], ◌∷◌, length, get_or, take, Decides, sym, refl, ap, ◌∙◌, subst, ap₂, ⊎_elim, arith}
use Rattle.std.proofs.lemmas.List.{get_or-take, length-take}
use Rattle.std.proofs.lemmas.Bool.{and_from, and_left, and_right, cases_lt, cond-true, cond-false, lt-ltb, le-ltb, le-leb, lt-leb}
use Rattle.std.proofs.lemmas.Bool.Decides.{Decides-and, Decides-below_or, Decides-eqb, same_from_decides}
use Rattle.readings.specs.Meaning.{Meaning, mark_of, is_on, in_doubt, on_set, doubt_set, worth, Possible}
use Rattle.readings.specs.Panel.{has, told, panel_over, asked, asks, spread_of}
use Rattle.readings.specs.declared.mark.Mark.{Mark}
use Rattle.readings.specs.declared.mark.Mark.TheVariants.{Off}
use Rattle.readings.proofs.Bits.{worth_place}
use Rattle.readings.proofs.Worths.{worth_same, worth_none, worth_below}

pub mark_in : (m : Meaning) (c n : ℕ) → c < m.codes → 0 < n → n ≤ m.names → mark_of m c n ≡ m.marks c n
mark_in m c n code low high =
    cond-true (ltb c m.codes && ltb 0 n && leb n m.names) _ _ (and_from _ _ (and_from _ _ (lt-ltb c m.codes code) (lt-ltb 0 n low)) (le-leb n m.names high))

pub mark_zero : (m : Meaning) (c n : ℕ) → n ≤ 0 → mark_of m c n ≡ Off
mark_zero m c n low =
    cond-false (ltb c m.codes && ltb 0 n && leb n m.names) _ _ (and_left _ _ (and_right _ _ (le-ltb 0 n low)))

pub mark_foreign : (m : Meaning) (c n : ℕ) → m.names < n → mark_of m c n ≡ Off
mark_foreign m c n high =
    cond-false (ltb c m.codes && ltb 0 n && leb n m.names) _ _ (and_right _ _ (lt-leb n m.names high))

pub mark_high : (m : Meaning) (c n : ℕ) → m.codes ≤ c → mark_of m c n ≡ Off
mark_high m c n high =
    cond-false (ltb c m.codes && ltb 0 n && leb n m.names) _ _ (and_left _ _ (and_left _ _ (le-ltb c m.codes high)))

-- a number is a name, 0 or too high
by_range : (names n : ℕ) (P : Mark → Type 0) (k : Mark) → (0 < n → n ≤ names → P k) → (n ≤ 0 → P k) → (names < n → P k) → P k
by_range names n P k named none high =
    ⊎_elim (λ (low : 0 < n). ⊎_elim high (named low) (cases_lt names n)) none (cases_lt 0 n)

-- what a code has on is within the names
by_number : (m : Meaning) (c n : ℕ) (b : Bool) → (0 < n → n ≤ m.names → is_on (mark_of m c n) ≡ b) → is_on (mark_of m c n) ≡ (ltb 0 n && leb n m.names && b)
by_number m c n b is =
    by_range m.names n (λ k. is_on k ≡ (ltb 0 n && leb n m.names && b)) (mark_of m c n)
    (λ low high. is low high ∙ sym (ap (λ t. t && b) (and_from _ _ (lt-ltb 0 n low) (le-leb n m.names high))))
    (λ low. ap is_on (mark_zero m c n low) ∙ sym (and_left _ b (and_left _ _ (le-ltb 0 n low))))
    (λ high. ap is_on (mark_foreign m c n high) ∙ sym (and_left _ b (and_right _ _ (lt-leb n m.names high))))

-- the numbers of the names
eight : List ℕ
eight = 1 ∷ 2 ∷ 3 ∷ 4 ∷ 5 ∷ 6 ∷ 7 ∷ 8 ∷ []

eight_at : (i : ℕ) → i < 8 → get_or eight i 0 ≡ i + 1
unfolding eight
eight_at zero h = refl
eight_at (suc zero) h = refl
eight_at (suc (suc zero)) h = refl
eight_at (suc (suc (suc zero))) h = refl
eight_at (suc (suc (suc (suc zero)))) h = refl
eight_at (suc (suc (suc (suc (suc zero))))) h = refl
eight_at (suc (suc (suc (suc (suc (suc zero)))))) h = refl
eight_at (suc (suc (suc (suc (suc (suc (suc zero))))))) h = refl
eight_at (suc (suc (suc (suc (suc (suc (suc (suc i)))))))) h = absurd (omega arith)

-- 255 is every answer
all_answers : (i : ℕ) → i < 8 → has 255 i ≡ true
unfolding worth eight
all_answers i h = worth_place (λ n. true) eight i h h

level_on : (b : Bool) → is_on (told true b) ≡ b
level_on true = refl
level_on false = refl

level_sure : (b : Bool) → in_doubt (told true b) ≡ false
level_sure true = refl
level_sure false = refl

module _ (ns : List ℕ) (set : ℕ) where
  -- a number is asked for just where a place of the set has it
  pub asked_decides : (n k : ℕ) → Decides (asked ns set n k) ((i : ℕ) × (i < k) × ((get_or ns i 0 ≡ n) × (has set i ≡ true)))
  unfolding asked
  asked_decides n k =
      Decides-below_or (λ i. eqb (get_or ns i 0) n && has set i) (λ i. (get_or ns i 0 ≡ n) × (has set i ≡ true)) (asked ns set n)
      (λ i. Decides-and _ _ (Decides-eqb (get_or ns i 0) n) (λ e. e, λ e. e)) refl (λ _. refl) k

  -- the levels in which just those names are on that the set asks for
  levels : ℕ
  levels = worth (λ n. asked ns set n (min (length ns) 8)) 0 eight

  -- the same with every answer
  candidate : ℕ
  candidate = levels + 65280

  level_at : (i : ℕ) → i < 8 → has levels i ≡ asked ns set (i + 1) (min (length ns) 8)
  unfolding levels eight
  level_at i h = worth_place (λ n. asked ns set n (min (length ns) 8)) eight i h h ∙ ap (λ n. asked ns set n (min (length ns) 8)) (eight_at i h)

  levels_small : levels < 256
  unfolding levels eight
  levels_small = omega (arith, worth_below (λ n. asked ns set n (min (length ns) 8)) 0 eight)

  module _ (all : List (List ℕ)) (few : length all ≤ 8) where
    -- what the candidate says of a name
    inside : (n : ℕ) → 0 < n → n ≤ length all → mark_of (panel_over all) candidate n ≡ told true (asked ns set n (min (length ns) 8))
    unfolding candidate
    inside n low high =
        let small = levels_small in
        let answers : candidate / 256 ≡ 255 = omega arith in
        let is : candidate % 256 ≡ levels = omega arith in
        let answered = ap (λ c. has c (n - 1)) answers ∙ all_answers (n - 1) (omega arith) in
        let number : n - 1 + 1 ≡ n = omega arith in
        let level = ap (λ c. has c (n - 1)) is ∙ level_at (n - 1) (omega arith) ∙ ap (λ k. asked ns set k (min (length ns) 8)) number in
        mark_in (panel_over all) candidate n (omega arith) low high ∙ ap₂ told answered level

    -- a name is on under the candidate just where the set asks for it, and nothing is in doubt
    candidate_on : (n : ℕ) → is_on (mark_of (panel_over all) candidate n) ≡ asks (length all) ns set n
    candidate_on n = by_number (panel_over all) candidate n (asked ns set n (min (length ns) 8)) (λ low high. ap is_on (inside n low high) ∙ level_on (asked ns set n (min (length ns) 8)))

    candidate_sure : (n : ℕ) → in_doubt (mark_of (panel_over all) candidate n) ≡ false
    candidate_sure n =
        by_range (length all) n (λ k. in_doubt k ≡ false) (mark_of (panel_over all) candidate n) (λ low high. ap in_doubt (inside n low high) ∙ level_sure (asked ns set n (min (length ns) 8))) (λ low. ap in_doubt (mark_zero (panel_over all) candidate n low)) (λ high. ap in_doubt (mark_foreign (panel_over all) candidate n high))

    -- a set that spreads to itself is shown by the candidate
    pub shown : spread_of (length all) ns set ≡ set → Possible (panel_over all) ns set
    unfolding on_set doubt_set candidate
    shown e =
        let small = levels_small in
        (candidate, omega arith, worth_same (λ n. is_on (mark_of (panel_over all) candidate n)) (asks (length all) ns set) 0 (take 8 ns) (λ i h. candidate_on (get_or (take 8 ns) i 0)) ∙ e, worth_none (λ n. in_doubt (mark_of (panel_over all) candidate n)) 0 (take 8 ns) candidate_sure)

  module _ (m : Meaning) (c : ℕ) (is : on_set m c ns ≡ set) where
    -- place i is in the set if the code has its number on
    place : (i : ℕ) → i < min (length ns) 8 → has set i ≡ is_on (mark_of m c (get_or ns i 0))
    unfolding on_set
    place i h = ap (λ v. has v i) (sym is) ∙ worth_place (λ n. is_on (mark_of m c n)) ns i (omega arith) (omega arith)

    -- and then its number is asked for
    number_asked : (i : ℕ) → i < min (length ns) 8 → Decides (asked ns set (get_or ns i 0) (min (length ns) 8)) (is_on (mark_of m c (get_or ns i 0)) ≡ true)
    number_asked i h =
        let d = asked_decides (get_or ns i 0) (min (length ns) 8) in
        (λ e. let r = d.0 e in sym (ap (λ n. is_on (mark_of m c n)) r.2.0) ∙ sym (place r.0 r.1) ∙ r.2.1, λ e. d.1 (i, h, (refl, place i h ∙ e)))

    agrees : (i : ℕ) → i < length (take 8 ns) → is_on (mark_of m c (get_or (take 8 ns) i 0)) ≡ asks m.names ns set (get_or (take 8 ns) i 0)
    agrees i h =
        let low : i < min (length ns) 8 = omega (arith, length-take 8 ns) in
        let here = by_number m c (get_or ns i 0) (asked ns set (get_or ns i 0) (min (length ns) 8)) (λ _ _. same_from_decides _ _ (λ e. e, λ e. e) (number_asked i low)) in
        subst (λ n. is_on (mark_of m c n) ≡ asks m.names ns set n) (sym (get_or-take 8 ns i 0 (omega arith))) here

    -- a set that some code shows spreads to itself
    pub forced : spread_of m.names ns set ≡ set
    unfolding on_set
    forced = sym (worth_same (λ n. is_on (mark_of m c n)) (asks m.names ns set) 0 (take 8 ns) agrees) ∙ is
