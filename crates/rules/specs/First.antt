-- The first that is there of a row of options, and the answer of a call that may be refused. Assumes nothing.
use Rattle.std.specs.Prelude.{ℕ, zero, suc, Some, None, Ok, Err, Option, Result}
use Rattle.rules.specs.declared.fault.Fault.{Fault}

abbrev pub or_else : {A : Type 0} → Option A → Option A → Option A
or_else None y = y
or_else (Some x) y = Some x

-- the first that is there of f 0, f 1, .., f (n - 1)
unfoldable pub first : {A : Type 0} → ℕ → (ℕ → Option A) → Option A
first zero f = None
first (suc n) f = or_else (first n f) (f n)

-- what a call answers that has this refusal, or else this value
abbrev pub answer : {V : Type 0} → Option Fault → V → Result V Fault
answer None v = Ok v
answer (Some f) v = Err f

-- what holds after a refusal, and after none
abbrev pub Left : Option Fault → Type 0 → Type 0 → Type 0
Left (Some f) P Q = P
Left None P Q = Q
