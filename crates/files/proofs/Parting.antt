-- Where a text has its first stop. Assumes nothing.
use Rattle.std.proofs.Common.{◌≡◌, ◌≢◌, ℕ, suc, ◌+◌, ◌-◌, ◌<◌, ◌≤◌, Bool, true, false, cond, ◌||◌, eqb, List, [], ◌∷◌, ◌++◌, length, take, drop, Option, Some, MatchOption, sym, refl, ap, ap₂, ◌∙◌, eq-eqb, ne_eqb, arith, length-drop}
use Rattle.std.specs.Bool.{MatchBool}
use Rattle.std.specs.List.{AllWithin, HoldsAt, list_any}
use Rattle.std.specs.Option.{unwrap_or}
use Rattle.std.proofs.lemmas.Iterator.{index_from_first}
use Rattle.std.proofs.lemmas.List.{drop_more, take_all, take-append-drop}
use Rattle.std.proofs.lemmas.Bool.{cond-true, cond-false}
use Rattle.files.specs.Lines.{Parted, before}

-- the index of the first stop, if there is one
abbrev pub IsFirst : ℕ → List ℕ → Option ℕ → Type 0
IsFirst stop s r = MatchOption r (AllWithin (λ b. b ≢ stop) s 0 (length s)) (λ i. (i < length s) × HoldsAt (λ b. b ≡ stop) s i × AllWithin (λ b. b ≢ stop) s 0 i)

pub counted : (stop : ℕ) (s : List ℕ) (r : Option ℕ) → IsFirst stop s r → before stop s ≡ unwrap_or r (length s)
counted stop s r first =
    index_from_first (before stop) (λ b. b ≡ stop) (λ b. b ≢ stop) refl
    (λ b s e. cond-true (eqb b stop) 0 (suc (before stop s)) (eq-eqb b stop e))
    (λ b s e. let k = cond-false (eqb b stop) 0 (suc (before stop s)) (ne_eqb b stop e) in omega arith)
    s r first

-- the two parts, as the code cuts them
pub parted : (stop : ℕ) (s : List ℕ) (i : ℕ) → IsFirst stop s (Some i) → Parted stop s (take i s) (take (length s - (i + 1)) (drop (i + 1) s))
parted stop s i first =
    let at = sym (counted stop s (Some i) first) in
    let rest = take_all (length s - (i + 1)) (drop (i + 1) s) (omega (arith, length-drop (i + 1) s)) in
    let low = first.0 in
    record {
      ended = omega arith;
      front_is = ap (λ k. take k s) at;
      back_is = rest ∙ ap (λ k. drop (k + 1) s) at;
      whole = sym (take-append-drop i s) ∙ ap (λ l. take i s ++ l) (drop_more s i 0 low ∙ ap₂ (λ b l. b ∷ l) (first.1 0) (sym rest));
    }

stopped_at : (b any : Bool) (n m : ℕ) → MatchBool any (n < m) (m ≤ n) → MatchBool (b || any) (cond b 0 (suc n) < suc m) (suc m ≤ cond b 0 (suc n))
stopped_at true any n m e = omega arith
stopped_at false true n m e = omega arith
stopped_at false false n m e = omega arith

-- whether a text has a stop
pub contained : (stop : ℕ) (s : List ℕ) → MatchBool (list_any (λ b. eqb b stop) s) (before stop s < length s) (length s ≤ before stop s)
contained stop [] = omega arith
contained stop (b ∷ s) = stopped_at (eqb b stop) _ (before stop s) (length s) (contained stop s)
