-- The sign at the front of a text. Assumes nothing.
use Rattle.std.proofs.Common.{◌≡◌, ℕ, suc, ◌+◌, ◌<◌, ◌≤◌, true, false, leb, List, [], ◌∷◌, length, take, drop, Some, None, codes, Option, refl, ap, ◌∙◌, subst, arith, length-drop}
use Rattle.std.proofs.lemmas.Bool.{cond-true, cond_both}
use Rattle.rules.specs.Signs.{Lexed, sign, bad, lex, lex_at, try, starts, marked, named, name_of, worded, reserved_of, is_word, run, class, in_word, skipped, is_blank, is_letter}
use Rattle.rules.specs.Text.{is_end}
use Rattle.rules.specs.declared.sign.Class.{Class}
use Rattle.rules.specs.declared.sign.Class.TheVariants.{Letter, Digit, Blank, Mark, Other}
use Rattle.rules.specs.declared.sign.Sign.{Sign}
use Rattle.rules.specs.declared.sign.Sign.TheVariants.{End}
use Rattle.rules.specs.declared.sign.Why.TheVariants.{LongName}

-- the sign at the front, as an arm names it
pub is_sign : {l : Lexed} {r : List ℕ} {m n : Sign} → l ≡ sign m r → m ≡ n → l ≡ sign n r
is_sign {r = r} e i = e ∙ ap (λ x. sign x r) i

-- A sign is the end of the text, or leaves fewer than n bytes.

abbrev Live : Lexed → ℕ → Type 0
Live (sign m r) n = (is_end m ≡ false) × (length r < n)
Live (bad f) n = Unit {0}

live_try : (x : ℕ) (ps : List ℕ) (m : Sign) (b : ℕ) (s : List ℕ) (e : Lexed) → is_end m ≡ false → Live e (suc (length s)) → Live (try (x ∷ ps) m (b ∷ s) e) (suc (length s))
live_try x ps m b s e i h =
    cond_both (starts (x ∷ ps) (b ∷ s)) (sign m (drop (length ps) s)) e (λ l. Live l (suc (length s))) (λ _. (i, omega (arith, length-drop (length ps) s))) (λ _. h)

live_mark : (s : List ℕ) → Live (marked s) (length s)
live_mark [] = tt
live_mark (b ∷ s) =
    live_try 33 [] _ b s _ refl
    (live_try 40 [] _ b s _ refl
    (live_try 41 [] _ b s _ refl
    (live_try 91 (93 ∷ []) _ b s _ refl
    (live_try 60 (62 ∷ []) _ b s _ refl
    (live_try 60 (45 ∷ 62 ∷ []) _ b s _ refl
    (live_try 45 (62 ∷ []) _ b s _ refl
    (live_try 43 (43 ∷ []) _ b s _ refl
    (live_try 47 (92 ∷ []) _ b s _ refl
    (live_try 92 (47 ∷ []) _ b s _ refl tt)))))))))

abbrev LiveWord : Option Sign → Type 0
LiveWord (Some m) = is_end m ≡ false
LiveWord None = Unit {0}

live_reserved : (w : List ℕ) → LiveWord (reserved_of w)
live_reserved w =
    cond_both (is_word (codes "true") w) _ _ LiveWord (λ _. refl)
    (λ _. cond_both (is_word (codes "false") w) _ _ LiveWord (λ _. refl)
    (λ _. cond_both (is_word (codes "o") w) _ _ LiveWord (λ _. refl)
    (λ _. cond_both (is_word (codes "U") w) _ _ LiveWord (λ _. refl) (λ _. tt))))

live_named : (o : Option Sign) (s : List ℕ) (n : ℕ) → LiveWord o → length (drop (run s) s) < n → Live (named o s) n
live_named (Some m) s n w h = (w, h)
live_named None s n w h =
    cond_both (leb (run s) 12) (sign (Sign.Name (name_of (run s) s)) (drop (run s) s)) (bad (record { why = LongName; left = length s })) (λ l. Live l n) (λ _. (refl, h)) (λ _. tt)

in_letter : (x : Class) → is_letter x ≡ true → in_word x ≡ true
in_letter Letter e = refl
in_letter Digit e = refl
in_letter Blank e = e
in_letter Mark e = e
in_letter Other e = e

live_word : (b : ℕ) (s : List ℕ) → is_letter (class b) ≡ true → Live (worded (b ∷ s)) (suc (length s))
live_word b s e =
    let r : run (b ∷ s) ≡ 1 + run s = cond-true (in_word (class b)) (1 + run s) 0 (in_letter (class b) e) in
    let w = take (run (b ∷ s)) (b ∷ s) in
    live_named (reserved_of w) (b ∷ s) (suc (length s)) (live_reserved w) (omega (arith, r, length-drop (run (b ∷ s)) (b ∷ s)))

live_at : (b : ℕ) (s : List ℕ) → Live (lex_at (b ∷ s)) (suc (length s))
live_at b s =
    cond_both (is_letter (class b)) (worded (b ∷ s)) (marked (b ∷ s)) (λ l. Live l (suc (length s))) (live_word b s) (λ _. live_mark (b ∷ s))

-- A SIGN TAKES A BYTE

shorter_at : (s : List ℕ) {r : List ℕ} {m : Sign} → lex_at s ≡ sign m r → (m ≡ End → ⊥) → length r < length s
shorter_at [] {r} {m} e live = let end : m ≡ End = cc in absurd (live end)
shorter_at (b ∷ s) e live = (subst (λ l. Live l (suc (length s))) e (live_at b s)).1

skipped_le : (s : List ℕ) → length (skipped s) ≤ length s
skipped_le [] = omega arith
skipped_le (b ∷ s) =
    let h = skipped_le s in
    cond_both (is_blank (class b)) (skipped s) (b ∷ s) (λ l. length l ≤ suc (length s)) (λ _. omega arith) (λ _. omega arith)

pub shorter : (s : List ℕ) {r : List ℕ} {m : Sign} → lex s ≡ sign m r → (m ≡ End → ⊥) → length r < length s
unfolding lex
shorter s e live = omega (arith, shorter_at (skipped s) e live, skipped_le s)

-- WHERE THE END IS FOUND, nothing but blanks is left

nothing_left : (s : List ℕ) {r : List ℕ} → lex_at s ≡ sign End r → length s ≡ 0
nothing_left [] e = refl
nothing_left (b ∷ s) e =
    let no : true ≡ false = (subst (λ l. Live l (suc (length s))) e (live_at b s)).0 in
    absurd cc

pub at_end_lem : (s : List ℕ) {r : List ℕ} → lex s ≡ sign End r → length (skipped s) ≡ 0
unfolding lex
at_end_lem s e = nothing_left (skipped s) e
