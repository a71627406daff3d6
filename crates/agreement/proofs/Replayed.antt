-- A list of calls: the answer to each, and what lies past. Assumes nothing.
use Rattle.std.proofs.Common.{◌≡◌, ℕ, ◌+◌, ◌<◌, ◌≤◌, List, length, get_or, take, drop, set, Result, sym, ap, ◌∙◌, subst, ⊎_elim, arith}
use Rattle.std.proofs.lemmas.List.{drop-drop, drop-set-lt, get_or-set_same, get_or-set_other, get_or_default}
use Rattle.std.proofs.lemmas.Bool.{cases_eq}
use Rattle.rules.specs.declared.fault.Fault.{Fault}
use Rattle.verdicts.specs.Case.{Subject}
use Rattle.monitor.specs.History.{History, played, refusal, told_of}
use Rattle.monitor.specs.Serves.{Stands, Serves}
use Rattle.monitor.specs.Standings.{Tells, Answers}
use Rattle.monitor.specs.declared.call.Call.{Call}
use Rattle.monitor.specs.declared.inner.Inner.{Inner}
use Rattle.monitor.specs.declared.standing.Standing.{Standing}
use Rattle.monitor.proofs.Histories.{played_more}

-- the answer to call i, as the history before it gives it
abbrev pub Answered : Subject → History → List Call → ℕ → Call → Result Standing Fault → Type 0
Answered b h calls i call r = Answers (refusal b (played b h (take i calls)) call) (Tells b (told_of (played b h (take i calls)) call)) r

-- the first n answers are right
abbrev pub Told : Subject → History → List Call → ℕ → List (Result Standing Fault) → Type 0
Told b h calls n xs = (i : ℕ) (c : Call) (d : Result Standing Fault) → i < n → i < length xs → Answered b h calls i (get_or calls i c) (get_or xs i d)

module _ (b : Subject) (h : History) (calls : List Call) (i : ℕ) where
  -- the same for the next call
  pub stands_more : (d : Call) (old new : Inner) (r : Result Standing Fault) → i < length calls → Serves b (get_or calls i d) old new r →
      Stands b (played b h (take i calls)) old → Stands b (played b h (take (i + 1) calls)) new
  stands_more d old new r within serves st =
      subst (λ (k : History). Stands b k new) (sym (played_more b h calls i d within)) (serves.stands (played b h (take i calls)) st)

  pub told_past : (xs ys : List (Result Standing Fault)) → ys ≡ xs → length xs ≤ i → Told b h calls i xs → Told b h calls (i + 1) ys
  told_past xs ys same past told k c d below within =
      let in_xs : k < length xs = subst (λ (l : List (Result Standing Fault)). k < length l) same within in
      subst (λ (l : List (Result Standing Fault)). Answered b h calls k (get_or calls k c) (get_or l k d)) (sym same) (told k c d (omega arith) in_xs)

  pub told_next : (xs ys : List (Result Standing Fault)) (r : Result Standing Fault) (call : Call) (old new : Inner) → ys ≡ set xs i r → i < length xs → i < length calls → length ys ≡ length xs →
      Serves b (get_or calls i call) old new r → Stands b (played b h (take i calls)) old → Told b h calls i xs → Told b h calls (i + 1) ys
  told_next xs ys r call old new same here low long serves st told k c d below within =
      let P : List (Result Standing Fault) → Type 0 = λ l. Answered b h calls k (get_or calls k c) (get_or l k d) in
      subst P (sym same) (⊎_elim
      (λ (e : k ≡ i).
      let given : Answered b h calls i (get_or calls i call) r = serves.answers (played b h (take i calls)) st in
      let named : Answered b h calls i (get_or calls i c) r = subst (λ (x : Call). Answered b h calls i x r) (get_or_default calls i call c low) given in
      let at_i : Answered b h calls i (get_or calls i c) (get_or (set xs i r) i d) = subst (Answered b h calls i (get_or calls i c)) (sym (get_or-set_same xs i r d here)) named in
      subst (λ (j : ℕ). Answered b h calls j (get_or calls j c) (get_or (set xs i r) j d)) (sym e) at_i)
      (λ (ne : k ≡ i → ⊥). subst (Answered b h calls k (get_or calls k c)) (sym (get_or-set_other xs i k r d ne)) (told k c d (omega arith) (omega arith)))
      (cases_eq k i))

-- what lies past the first i + 1 is as it was, where it was past the first i
pub past_more : {A : Type 0} (i : ℕ) (xs old : List A) → drop i xs ≡ drop i old → drop (i + 1) xs ≡ drop (i + 1) old
past_more i xs old e = sym (drop-drop 1 i xs) ∙ ap (drop 1) e ∙ drop-drop 1 i old

pub past_set : {A : Type 0} (i : ℕ) (xs ys old : List A) (x : A) → ys ≡ set xs i x → drop i xs ≡ drop i old → drop (i + 1) ys ≡ drop (i + 1) old
past_set i xs ys old x same e = ap (drop (i + 1)) same ∙ drop-set-lt (i + 1) xs i x (omega arith) ∙ past_more i xs old e
