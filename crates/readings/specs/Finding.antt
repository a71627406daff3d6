-- Finding a name in a list, and a rule's letters in a reading. Assumes nothing.
use Rattle.std.specs.Prelude.{◌≡◌, ℕ, zero, suc, ◌+◌, ◌<◌, ◌≤◌, Bool, true, false, cond, ◌⊎◌, List, [], ◌∷◌, ◌++◌, length, take, is_some, Some, None, Option, slice_index_or, slice_set, refl}
use Rattle.std.proofs.Common.{sym, ap, ap₂, ◌∙◌, inl, inr, ⊎_elim, arith}
use Rattle.std.proofs.Math.Path.{subst}
use Rattle.std.proofs.lemmas.List.{get_or-map, length-map, length-take-le, get_or-take, take_more_set, map_more}
use Rattle.std.proofs.lemmas.Bool.{cond-true, cond-false, both_ways}
use Rattle.std.specs.Option.{unwrap_or}
use Rattle.rules.specs.First.{first, or_else}
use Rattle.rules.specs.Names.{spelled, same_name}
use Rattle.rules.specs.declared.name.Name.{Name}
use Rattle.rules.proofs.First.{first_more, first_some}
use Rattle.rules.specs.declared.fault.Fault.{Fault}
use Rattle.rules.specs.declared.fault.Fault.TheVariants.{AbsentName}
use Rattle.rules.specs.declared.rule.Letter.{Letter}
use Rattle.readings.specs.Meaning.{Meaning}
use Rattle.readings.specs.Binding.{absent_at, found_by, letter_at, no_letter, unbound, numbers_for}
use Rattle.readings.specs.Listed.{spellings, name_at, find_in}
use Rattle.readings.specs.declared.listed.NameList.{NameList}

-- what the search of a list looks at in place i
abbrev pub hit : List (List ℕ) → List ℕ → ℕ → Option ℕ
hit ns n i = cond (same_name (name_at ns i) n) (Some (i + 1)) None

taken : {most : ℕ} (l : NameList most) → length (take l.count l.names) ≡ l.count
taken l = length-take-le l.count l.names (omega (arith, l.few, l.long))

pub spellings_length : {most : ℕ} (l : NameList most) → length (spellings l) ≡ l.count
spellings_length l = length-map (take l.count l.names) spelled ∙ taken l

-- name i of a list is what its element spells
pub spelling_at : {most : ℕ} (l : NameList most) (i : ℕ) (d : Name) → i < l.count → name_at (spellings l) i ≡ spelled (slice_index_or l.names i d)
spelling_at l i d low =
    let long = taken l in
    get_or-map spelled (take l.count l.names) i d [] (omega arith) ∙ ap spelled (get_or-take l.count l.names i d low)

module _ (ns : List (List ℕ)) (n : List ℕ) (i : ℕ) where
  pub hit_miss : same_name (name_at ns i) n ≡ false → hit ns n i ≡ None
  hit_miss e = cond-false (same_name (name_at ns i) n) (Some (i + 1)) None e

  pub found_at : i < length ns → first i (hit ns n) ≡ None → same_name (name_at ns i) n ≡ true → find_in ns n ≡ Some (i + 1)
  unfolding find_in
  found_at low none e = first_some (hit ns n) (length ns) i (i + 1) low none (cond-true (same_name (name_at ns i) n) (Some (i + 1)) None e)

  pub not_found : i ≡ length ns → first i (hit ns n) ≡ None → find_in ns n ≡ None
  unfolding find_in
  not_found e none = subst (λ k. first k (hit ns n) ≡ None) e none

from_either : {X : Type 0} (a b : Option X) (x : X) → or_else a b ≡ Some x → (a ≡ Some x) ⊎ (b ≡ Some x)
from_either None b x e = inr e
from_either (Some y) b x e = inl e

-- what a search finds stands at some place
first_from : {X : Type 0} (f : ℕ → Option X) (n : ℕ) (x : X) → first n f ≡ Some x → (i : ℕ) × (i < n) × (f i ≡ Some x)
unfolding first
first_from f zero x e = let z : ◌≡◌ {A = ℕ} 0 1 = cc in absurd (omega arith)
first_from f (suc n) x e =
    let before : first n f ≡ Some x → (i : ℕ) × (i < suc n) × (f i ≡ Some x) = λ h. let r = first_from f n x h in (r.0, omega (arith, r.1), r.2) in
    ⊎_elim before (λ (h : f n ≡ Some x). (n, omega arith, h)) (from_either (first n f) (f n) x e)

hit_number : (b : Bool) (i k : ℕ) → cond b (Some (i + 1)) None ≡ Some k → i + 1 ≡ k
hit_number true i k e = cc
hit_number false i k e = cc

-- a name that is found has a number of the list
pub found_within : (ns : List (List ℕ)) (n : List ℕ) (k : ℕ) → find_in ns n ≡ Some k → (1 ≤ k) × (k ≤ length ns)
unfolding find_in
found_within ns n k e =
    let r = first_from (hit ns n) (length ns) k e in
    let is = hit_number (same_name (name_at ns r.0) n) r.0 k r.2 in
    let low = r.1 in
    (omega arith, omega arith)

-- what binding looks at in letter i
abbrev pub absence : Meaning → List Letter → ℕ → Option Fault
absence m ls i = absent_at (found_by m (letter_at ls i)) (letter_at ls i)

absent : (o : Option ℕ) (l : Letter) → is_some o ≡ false → absent_at o l ≡ Some (AbsentName l.at)
absent None l e = refl
absent (Some n) l e = absurd (both_ways true e refl)

present : (o : Option ℕ) (l : Letter) → is_some o ≡ true → absent_at o l ≡ None
present None l e = absurd (both_ways false refl e)
present (Some n) l e = refl

module _ (m : Meaning) (ls : List Letter) (i : ℕ) where
  pub absent_first : i < length ls → first i (absence m ls) ≡ None → is_some (found_by m (letter_at ls i)) ≡ false → unbound m ls ≡ Some (AbsentName (letter_at ls i).at)
  unfolding unbound
  absent_first low none e = first_some (absence m ls) (length ls) i _ low none (absent _ (letter_at ls i) e)

  pub present_more : first i (absence m ls) ≡ None → is_some (found_by m (letter_at ls i)) ≡ true → first (i + 1) (absence m ls) ≡ None
  present_more none e = first_more (absence m ls) i none (present _ (letter_at ls i) e)

  pub all_present : i ≡ length ls → first i (absence m ls) ≡ None → unbound m ls ≡ None
  unfolding unbound
  all_present all none = subst (λ k. first k (absence m ls) ≡ None) all none

  pub numbers_more : (xs : List ℕ) (n : ℕ) → i < length ls → i < length xs → n ≡ unwrap_or (found_by m (letter_at ls i)) 0 → take i xs ≡ numbers_for m (take i ls) → take (i + 1) (slice_set xs i n) ≡ numbers_for m (take (i + 1) ls)
  numbers_more xs n low room is so =
      take_more_set xs i n room ∙ ap₂ (λ ys y. ys ++ y ∷ []) so is ∙ sym (map_more (λ l. unwrap_or (found_by m l) 0) ls i no_letter low)
