-- What a search of a list answers, by the places of the list, and what `ok_or` makes of an answer. Assumes nothing.
use Rattle.std.proofs.Common.{◌≡◌, ℕ, zero, suc, ◌+◌, ◌<◌, ◌≤◌, Bool, true, false, List, [], length, get_or, take, Some, None, Ok, Err, Option, Decides, MatchBool, MatchOption, sym, refl, ap, subst, ◌∙◌, ap₂, arith}
use Rattle.std.specs.List.{AllWithin, HoldsAt}
use Rattle.std.specs.Option.{ok_or}
use Rattle.std.proofs.lemmas.Bool.{both_ways}
use Rattle.std.proofs.lemmas.List.{get_or-take, length-take-le}
use Rattle.rules.specs.First.{first, or_else}
use Rattle.rules.specs.Names.{spelled, same_name}
use Rattle.rules.specs.declared.name.Name.{Name}
use Rattle.readings.specs.Finding.{hit, hit_miss, found_at, not_found, spelling_at, spellings_length}
use Rattle.readings.specs.Listed.{find_in, name_at, spellings}
use Rattle.readings.specs.declared.listed.NameList.{NameList}

-- `any`: whether some place passes, where f is what stands there
pub some_place : {X : Type 0} (b : Bool) (test : X → Bool) (xs : List X) (f : ℕ → X) (n : ℕ) (d : X) → length xs ≡ n → ((k : ℕ) → k < n → get_or xs k d ≡ f k) → MatchBool b ((k : ℕ) × (k < length xs) × HoldsAt (λ x. test x ≡ true) xs k) (AllWithin (λ x. test x ≡ false) xs 0 (length xs)) → Decides b ((k : ℕ) × (k < n) × (test (f k) ≡ true))
some_place true test xs f n d long at h =
    let low : h.0 < n = omega (arith, h.1) in
    (λ e. (h.0, low, ap test (sym (at h.0 low)) ∙ h.2 d), λ p. refl)
some_place false test xs f n d long at h =
    (λ e. absurd (both_ways false refl e), λ p. absurd (both_ways (test (f p.0)) (ap test (sym (at p.0 p.1)) ∙ h p.0 d (omega arith) (omega (arith, p.1))) p.2))

-- what `ok_or` refuses was not there
pub left_out : {X Y : Type 0} (P : Type 0) (Q : X → Type 0) (o : Option X) (e f : Y) → MatchOption o P Q → ok_or o e ≡ Err f → P × (e ≡ f)
left_out P Q None e f h is = (h, cc)
left_out P Q (Some x) e f h is = let z : ◌≡◌ {A = ℕ} 0 1 = cc in absurd (omega arith)

-- and what it lets through was
pub let_in : {X Y : Type 0} (P : Type 0) (Q : X → Type 0) (o : Option X) (e : Y) (x : X) → MatchOption o P Q → ok_or o e ≡ Ok x → Q x
let_in P Q None e x h is = let z : ◌≡◌ {A = ℕ} 0 1 = cc in absurd (omega arith)
let_in P Q (Some y) e x h is = let same : y ≡ x = cc in subst Q same h

pub refusal : {X Y : Type 0} (o : Option X) (e f : Y) → ok_or o e ≡ Err f → e ≡ f
refusal None e f is = cc
refusal (Some x) e f is = let z : ◌≡◌ {A = ℕ} 0 1 = cc in absurd (omega arith)

first_none : {X : Type 0} (f : ℕ → Option X) (n : ℕ) → ((k : ℕ) → k < n → f k ≡ None) → first n f ≡ None
unfolding first
first_none f zero h = refl
first_none f (suc n) h = ap₂ or_else (first_none f n (λ k l. h k (omega arith))) (h n (omega arith))

no_one : Name
no_one = record { bytes = []; len = 0 }

module _ {most : ℕ} (l : NameList most) (n : List ℕ) where
  names : List Name
  names = take l.count l.names

  is_here : (i : ℕ) → i < l.count → same_name (name_at (spellings l) i) n ≡ same_name (spelled (get_or names i no_one)) n
  unfolding names
  is_here i low = ap (λ x. same_name x n) (spelling_at l i no_one low ∙ ap spelled (sym (get_or-take l.count l.names i no_one low)))

  misses : (i : ℕ) → i ≤ l.count → AllWithin (λ x. same_name (spelled x) n ≡ false) names 0 i → first i (hit (spellings l) n) ≡ None
  misses i few none = first_none (hit (spellings l) n) i (λ k low. hit_miss (spellings l) n k (is_here k (omega arith) ∙ none k no_one (omega arith) low))

  -- `position`: the number of the first name that is the same, counted from 0
  pub first_place : (r : Option ℕ) → MatchOption r (AllWithin (λ x. same_name (spelled x) n ≡ false) (take l.count l.names) 0 (length (take l.count l.names))) (λ i. (i < length (take l.count l.names)) × HoldsAt (λ x. same_name (spelled x) n ≡ true) (take l.count l.names) i × AllWithin (λ x. same_name (spelled x) n ≡ false) (take l.count l.names) 0 i) → MatchOption r (find_in (spellings l) n ≡ None) (λ i. (i < l.count) × (find_in (spellings l) n ≡ Some (i + 1)))
  unfolding names
  first_place None h =
      let all : l.count ≡ length (take l.count l.names) = sym (length-take-le l.count l.names (omega (arith, l.few, l.long))) in
      not_found (spellings l) n l.count (sym (spellings_length l)) (misses l.count (omega arith) (subst (AllWithin (λ x. same_name (spelled x) n ≡ false) (take l.count l.names) 0) (sym all) h))
  first_place (Some i) h =
      let low : i < l.count = omega (arith, h.0, length-take-le l.count l.names (omega (arith, l.few, l.long))) in
      (low, found_at (spellings l) n i (omega (arith, low, spellings_length l)) (misses i (omega arith) h.2) (is_here i low ∙ h.1 no_one))
