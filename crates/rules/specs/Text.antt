-- The signs of a text from left to right, each with the byte at which it begins. Assumes nothing.
use Rattle.std.specs.Prelude.{ℕ, zero, suc, ◌-◌, Bool, true, false, cond, List, [], ◌∷◌, length}
use Rattle.rules.specs.Faults.{fault_of}
use Rattle.rules.specs.Signs.{Lexed, sign, bad, lex, skipped}
use Rattle.rules.specs.declared.fault.Fault.{Fault}
use Rattle.rules.specs.declared.sign.Sign.{Sign}
use Rattle.rules.specs.declared.sign.Sign.TheVariants.{Before, Between, Truth, Open, Close, End}

-- a sign, and the byte at which it begins
pub record Placed : Type 0 where
  pub sign : Sign
  pub at : ℕ

abbrev pub placed : Sign → ℕ → Placed
placed m a = record { sign = m; at = a }

-- signs up to the end of the text, with the text's length, or to where no sign stands, with the fault
pub data Signs : Type 0 where
  next : Placed → Signs → Signs
  the_end : ℕ → Signs
  no_sign : Fault → Signs

infixr 5 ◌then◌
-- a list of signs, and what comes behind them
abbrev pub ◌then◌ : List Placed → Signs → Signs
[] then x = x
(p ∷ ps) then x = next p (ps then x)

abbrev pub is_end : Sign → Bool
is_end (Before u) = false
is_end (Between b) = false
is_end (Truth v) = false
is_end (Sign.Name w) = false
is_end Open = false
is_end Close = false
is_end End = true

-- where s is left of a text of n bytes: the first byte that is not blank
abbrev pub byte_at : ℕ → List ℕ → ℕ
byte_at n s = n - length (skipped s)

-- what the front of s, which is left of a text of n bytes, adds to the signs behind it
abbrev pub found : Lexed → ℕ → List ℕ → (List ℕ → Signs) → Signs
found (sign m r) n s more = cond (is_end m) (the_end n) (next (placed m (byte_at n s)) (more r))
found (bad f) n s more = no_sign (fault_of n f)

-- the signs of s, which is left of a text of n bytes. Each takes a byte, so more than length s of them are never asked for
abbrev pub signs_from : ℕ → ℕ → List ℕ → Signs
signs_from zero n s = the_end n
signs_from (suc most) n s = found (lex s) n s (signs_from most n)

-- THE SIGNS OF A TEXT
unfoldable pub signs : List ℕ → Signs
signs text = signs_from (suc (length text)) (length text) text
