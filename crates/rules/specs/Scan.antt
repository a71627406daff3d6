-- A text's signs gone through from left to right with a small state: the first fault. Assumes nothing.
use Rattle.std.specs.Prelude.{ℕ, ◌+◌, ◌-◌, Bool, true, false, cond, List, [], length, Some, None, Option, nat_lt}
use Rattle.rules.specs.Faults.{fault_at}
use Rattle.rules.specs.Names.{place, added}
use Rattle.rules.specs.Text.{Signs, next, the_end, no_sign, signs}
use Rattle.rules.specs.declared.fault.Fault.{Fault}
use Rattle.rules.specs.declared.fault.Fault.TheVariants.{LongText}
use Rattle.rules.specs.declared.name.Name.{Name}
use Rattle.rules.specs.declared.sign.Sign.{Sign}
use Rattle.rules.specs.declared.sign.Sign.TheVariants.{Before, Between, Truth, Open, Close, End}
use Rattle.rules.specs.declared.sign.Why.{Why}
use Rattle.rules.specs.declared.sign.Why.TheVariants.{Misplaced, DeepNesting, ManyNodes, ManyLetters}

-- whether an operand is expected, how many parentheses are open, how many nodes the signs so far make, and their names
pub record State : Type 0 where
  pub operand : Bool
  pub depth : ℕ
  pub made : ℕ
  pub known : List Name

abbrev pub want : ℕ → ℕ → List Name → State
want d n l = record { operand = true; depth = d; made = n; known = l }

abbrev pub have : ℕ → ℕ → List Name → State
have d n l = record { operand = false; depth = d; made = n; known = l }

-- where an operand is expected, a sign either goes on in a new state or is refused
abbrev pub wants : {A : Type 0} → Sign → ℕ → ℕ → List Name → (State → A) → (Why → A) → A
wants (Before u) d n l on stop = cond (nat_lt n 64) (on (want d (n + 1) l)) (stop ManyNodes)
wants (Between b) d n l on stop = stop Misplaced
wants (Truth v) d n l on stop = cond (nat_lt n 64) (on (have d (n + 1) l)) (stop ManyNodes)
wants (Sign.Name w) d n l on stop = cond (nat_lt n 64) (cond (nat_lt (place l w) 8) (on (have d (n + 1) (added l w))) (stop ManyLetters)) (stop ManyNodes)
wants Open d n l on stop = cond (nat_lt d 16) (on (want (d + 1) n l)) (stop DeepNesting)
wants Close d n l on stop = stop Misplaced
wants End d n l on stop = stop Misplaced

-- where an operand has been read; the end with no parenthesis open is the last sign
abbrev pub haves : {A : Type 0} → Sign → ℕ → ℕ → List Name → (State → A) → (Why → A) → A → A
haves (Before u) d n l on stop last = stop Misplaced
haves (Between b) d n l on stop last = cond (nat_lt n 64) (on (want d (n + 1) l)) (stop ManyNodes)
haves (Truth v) d n l on stop last = stop Misplaced
haves (Sign.Name w) d n l on stop last = stop Misplaced
haves Open d n l on stop last = stop Misplaced
haves Close d n l on stop last = cond (nat_lt 0 d) (on (have (d - 1) n l)) (stop Misplaced)
haves End d n l on stop last = cond (nat_lt 0 d) (stop Misplaced) last

-- ONE SIGN in a state
abbrev pub react : {A : Type 0} → Sign → State → (State → A) → (Why → A) → A → A
react m σ on stop last = cond σ.operand (wants m σ.depth σ.made σ.known on stop) (haves m σ.depth σ.made σ.known on stop last)

-- the first fault of some signs, from a state
abbrev pub scan : Signs → State → Option Fault
scan (next p x) σ = react p.sign σ (λ τ. scan x τ) (λ w. Some (fault_at w p.at)) None
scan (the_end n) σ = react End σ (λ τ. None) (λ w. Some (fault_at w n)) None
scan (no_sign f) σ = Some f

-- THE FIRST FAULT OF A TEXT: its length, or else what the scan of its signs finds
unfoldable pub first_fault : List ℕ → Option Fault
first_fault text = cond (nat_lt 512 (length text)) (Some LongText) (scan (signs text) (want 0 0 []))
