-- The scan and the grammar over the bytes that are left of a text, as the functions that read it meet them. Assumes nothing.
use Rattle.std.specs.Prelude.{◌≡◌, ℕ, suc, Bool, true, false, cond, List, nat_lt}
use Rattle.rules.specs.Signs.{Lexed, sign, bad, lex, stop_at}
use Rattle.rules.specs.Grammar.{rank_of, rightward}
use Rattle.rules.specs.Names.{letter_at}
use Rattle.rules.specs.Scan.{State, have, react}
use Rattle.rules.specs.Tree.{Tree, leaf, truth, before, between}
use Rattle.rules.specs.declared.name.Name.{Name}
use Rattle.rules.specs.declared.node.Unary.{Unary}
use Rattle.rules.specs.declared.node.Binary.{Binary}
use Rattle.rules.specs.declared.rule.Letter.{Letter}
use Rattle.rules.specs.declared.sign.Sign.{Sign}
use Rattle.rules.specs.declared.sign.Sign.TheVariants.{Before, Between, Truth, Open, Close, End}
use Rattle.rules.specs.declared.sign.Stop.{Stop}

-- THE SCAN

pub data Out : Type 0 where
  go : List ℕ → State → Out
  halt : Stop → Out
  done : Out

abbrev pub turn : Lexed → List ℕ → State → Out
turn (sign m r) s σ = react m σ (go r) (λ w. halt (stop_at w s)) done
turn (bad f) s σ = halt f

-- one step of the scan
abbrev pub step : List ℕ → State → Out
step s σ = turn (lex s) s σ

-- some steps lead from one place and state to another
pub data Reach : List ℕ → State → List ℕ → State → Type 0 where
  here : {s : List ℕ} {σ : State} → Reach s σ s σ
  onward : {s m r : List ℕ} {σ τ ρ : State} → step s σ ≡ go m τ → Reach m τ r ρ → Reach s σ r ρ

-- the first fault of the text that is left, from a state
pub record Halts (s : List ℕ) (σ : State) (f : Stop) : Type 0 where
  pub at : List ℕ
  pub in_state : State
  pub leads : Reach s σ at in_state
  pub stops : step at in_state ≡ halt f

-- behind an operand, inside d parentheses: the next step, whatever nodes are made and names are known
abbrev pub NextStep : List ℕ → ℕ → Out → Type 0
NextStep s d o = (n : ℕ) (l : List Name) → step s (have d n l) ≡ o

-- what closes a part inside d parentheses
abbrev pub closer : ℕ → Sign
closer d = cond (nat_lt 0 d) Close End

-- THE GRAMMAR

abbrev pub sign_rank : Sign → ℕ
sign_rank (Before u) = 0
sign_rank (Between b) = rank_of b
sign_rank (Truth v) = 0
sign_rank (Sign.Name w) = 0
sign_rank Open = 0
sign_rank Close = 0
sign_rank End = 0

abbrev pub lex_rank : Lexed → ℕ
lex_rank (sign m r) = sign_rank m
lex_rank (bad f) = 0

-- the rank of the next sign, 0 if it does not stand between operands
abbrev pub rank_at : List ℕ → ℕ
rank_at s = lex_rank (lex s)

-- in a text of n bytes, from s up to r stands the tree t, at level k
pub data Reads (n : ℕ) : ℕ → List ℕ → List ℕ → Tree Letter → Type 0 where
  a_name : {s r : List ℕ} {w : Name} → lex s ≡ sign (Sign.Name w) r → Reads n 7 s r (leaf (letter_at n s w))
  a_truth : {s r : List ℕ} {v : Bool} → lex s ≡ sign (Truth v) r → Reads n 7 s r (truth v)
  a_before : {s m r : List ℕ} {u : Unary} {t : Tree Letter} → lex s ≡ sign (Before u) m → Reads n 7 m r t → Reads n 7 s r (before u t)
  a_group : {s m e r : List ℕ} {t : Tree Letter} → lex s ≡ sign Open m → Reads n 1 m e t → lex e ≡ sign Close r → Reads n 7 s r t
  up : {k : ℕ} {s r : List ℕ} {t : Tree Letter} → Reads n (suc k) s r t → Reads n k s r t
  to_left : {k : ℕ} {s m e r : List ℕ} {o : Binary} {t u : Tree Letter} → rank_of o ≡ k → rightward o ≡ false → Reads n k s m t → lex m ≡ sign (Between o) e → Reads n (suc k) e r u → Reads n k s r (between o t u)
  to_right : {k : ℕ} {s m e r : List ℕ} {o : Binary} {t u : Tree Letter} → rank_of o ≡ k → rightward o ≡ true → Reads n (suc k) s m t → lex m ≡ sign (Between o) e → Reads n k e r u → Reads n k s r (between o t u)

-- nothing but blanks is left
abbrev pub Ended : List ℕ → Type 0
Ended s = (x : List ℕ) × (lex s ≡ sign End x)
