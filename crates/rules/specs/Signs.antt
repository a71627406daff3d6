-- The signs of a text, over its bytes, and which bytes are a name. Assumes nothing.
use Rattle.std.specs.Prelude.{ℕ, Bool, true, false, cond, not, ◌&&◌, ◌||◌, List, [], ◌∷◌, ◌++◌, length, take, drop, replicate, is_some, Some, None, codes, Option, ◌==◌, nat_le}
use Rattle.std.specs.List.{prefix_len, list_all}
use Rattle.rules.specs.declared.name.Name.{Name}
use Rattle.rules.specs.declared.node.Unary.TheVariants.{Not, Always, Eventually, Next}
use Rattle.rules.specs.declared.node.Binary.TheVariants.{Until, And, Xor, Or, Implies, Iff}
use Rattle.rules.specs.declared.sign.Class.{Class}
use Rattle.rules.specs.declared.sign.Class.TheVariants.{Letter, Digit, Blank, Mark, Other}
use Rattle.rules.specs.declared.sign.Sign.{Sign}
use Rattle.rules.specs.declared.sign.Sign.TheVariants.{Before, Between, Truth, Open, Close, End}
use Rattle.rules.specs.declared.sign.Why.{Why}
use Rattle.rules.specs.declared.sign.Why.TheVariants.{NoSign, LongName}
use Rattle.rules.specs.declared.sign.Stop.{Stop}

-- A to Z, a to z
abbrev pub letter : ℕ → Bool
letter b = (nat_le 65 b && nat_le b 90) || (nat_le 97 b && nat_le b 122)

-- 0 to 9, _
abbrev pub digit : ℕ → Bool
digit b = (nat_le 48 b && nat_le b 57) || b == 95

-- space, tab
abbrev pub blank : ℕ → Bool
blank b = b == 32 || b == 9

abbrev pub one_of : List ℕ → ℕ → Bool
one_of [] b = false
one_of (p ∷ ps) b = b == p || one_of ps b

-- the first byte of a sign that is no word: ! ( ) [ < - + / \
abbrev pub begins : ℕ → Bool
begins b = one_of (33 ∷ 40 ∷ 41 ∷ 91 ∷ 60 ∷ 45 ∷ 43 ∷ 47 ∷ 92 ∷ []) b

abbrev pub class : ℕ → Class
class b = cond (letter b) Letter (cond (digit b) Digit (cond (blank b) Blank (cond (begins b) Mark Other)))

-- how a class is written in the table: L, D, B, S, -
abbrev pub code : Class → ℕ
code Letter = 76
code Digit = 68
code Blank = 66
code Mark = 83
code Other = 45

abbrev pub is_blank : Class → Bool
is_blank Letter = false
is_blank Digit = false
is_blank Blank = true
is_blank Mark = false
is_blank Other = false

abbrev pub is_letter : Class → Bool
is_letter Letter = true
is_letter Digit = false
is_letter Blank = false
is_letter Mark = false
is_letter Other = false

abbrev pub in_word : Class → Bool
in_word Letter = true
in_word Digit = true
in_word Blank = false
in_word Mark = false
in_word Other = false

-- the text from its first byte that is not blank
abbrev pub skipped : List ℕ → List ℕ
skipped [] = []
skipped (b ∷ s) = cond (is_blank (class b)) (skipped s) (b ∷ s)

-- how many bytes at the front are letters, digits or underscores
abbrev pub run : List ℕ → ℕ
run s = prefix_len (λ b. in_word (class b)) s

-- what stands at the front of a text: a sign and what is behind it, or why there is none
pub data Lexed : Type 0 where
  sign : Sign → List ℕ → Lexed
  bad : Stop → Lexed

-- the text begins with these bytes
abbrev pub starts : List ℕ → List ℕ → Bool
starts [] s = true
starts (p ∷ ps) [] = false
starts (p ∷ ps) (b ∷ s) = b == p && starts ps s

abbrev pub try : List ℕ → Sign → List ℕ → Lexed → Lexed
try p m s else = cond (starts p s) (sign m (drop (length p) s)) else

-- a sign that is no word: ! ( ) [] <> <-> -> ++ /\ \/
abbrev pub marked : List ℕ → Lexed
marked s =
    try (33 ∷ []) (Before Not) s
    (try (40 ∷ []) Open s
    (try (41 ∷ []) Close s
    (try (91 ∷ 93 ∷ []) (Before Always) s
    (try (60 ∷ 62 ∷ []) (Before Eventually) s
    (try (60 ∷ 45 ∷ 62 ∷ []) (Between Iff) s
    (try (45 ∷ 62 ∷ []) (Between Implies) s
    (try (43 ∷ 43 ∷ []) (Between Xor) s
    (try (47 ∷ 92 ∷ []) (Between And) s
    (try (92 ∷ 47 ∷ []) (Between Or) s
    (bad (record { why = NoSign; left = length s })))))))))))

abbrev pub is_word : List ℕ → List ℕ → Bool
is_word [] [] = true
is_word [] (b ∷ s) = false
is_word (p ∷ ps) [] = false
is_word (p ∷ ps) (b ∷ s) = b == p && is_word ps s

abbrev pub reserved_of : List ℕ → Option Sign
reserved_of w =
    cond (is_word (codes "true") w) (Some (Truth true))
    (cond (is_word (codes "false") w) (Some (Truth false))
    (cond (is_word (codes "o") w) (Some (Before Next))
    (cond (is_word (codes "U") w) (Some (Between Until)) None)))

-- the first n bytes, and zeros up to twelve
abbrev pub name_of : ℕ → List ℕ → Name
name_of n s = record { bytes = take n s ++ drop n (replicate 12 0); len = n }

abbrev pub named : Option Sign → List ℕ → Lexed
named (Some m) s = sign m (drop (run s) s)
named None s = cond (nat_le (run s) 12) (sign (Sign.Name (name_of (run s) s)) (drop (run s) s)) (bad (record { why = LongName; left = length s }))

-- a word at the front: its longest run, and the sign that it is
abbrev pub worded : List ℕ → Lexed
worded s = named (reserved_of (take (run s) s)) s

abbrev pub lex_at : List ℕ → Lexed
lex_at [] = sign End []
lex_at (b ∷ s) = cond (is_letter (class b)) (worded (b ∷ s)) (marked (b ∷ s))

-- THE SIGN AT THE FRONT of a text, behind blanks
unfoldable pub lex : List ℕ → Lexed
lex s = lex_at (skipped s)

-- a stop at the first byte that is not blank, or at the end
abbrev pub stop_at : Why → List ℕ → Stop
stop_at w s = record { why = w; left = length (skipped s) }

abbrev pub from_letter : List ℕ → Bool
from_letter [] = false
from_letter (b ∷ s) = is_letter (class b)

abbrev pub all_in_word : List ℕ → Bool
all_in_word s = list_all (λ b. in_word (class b)) s

-- THE BYTES ARE A NAME: a letter first, all letters, digits or underscores, at most twelve, not reserved
abbrev pub is_name : List ℕ → Bool
is_name s = from_letter s && (all_in_word s && (nat_le (length s) 12 && not (is_some (reserved_of s))))
