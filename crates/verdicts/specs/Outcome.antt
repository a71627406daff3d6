-- What an evaluation answers, and what it leaves in its scratch. Assumes nothing.
use Rattle.std.specs.Prelude.{◌≡◌, ℕ, ◌+◌, ◌*◌, ◌<◌, cond, List, length, drop, Some, None, Option, nat_lt, slice_index_or}
use Rattle.rules.specs.Rules.{node_count, letter_count}
use Rattle.rules.specs.Tree.{decode, node_at}
use Rattle.rules.specs.declared.fault.Fault.{Fault}
use Rattle.rules.specs.declared.fault.Fault.TheVariants.{ManyEvents, ShortBuffer}
use Rattle.rules.specs.declared.node.Node.{Node}
use Rattle.rules.specs.declared.rule.Rule.{Rule}
use Rattle.verdicts.specs.Scale.{Ops}
use Rattle.verdicts.specs.Meaning.{means, rows}

-- why n events over k letters, for m nodes, are refused, with a valuation of c values and a scratch of w
abbrev pub refusal : ℕ → ℕ → ℕ → ℕ → ℕ → Option Fault
refusal n k m c w =
    cond (nat_lt 4095 n) (Some ManyEvents) (cond (nat_lt c (n * k)) (Some (ShortBuffer (n * k))) (cond (nat_lt w (2 * m)) (Some (ShortBuffer (2 * m))) None))

abbrev pub refused : {V : Type 0} → Rule → ℕ → List V → List V → Option Fault
refused r n valuation scratch = refusal n (letter_count r) (node_count r) (length valuation) (length scratch)

-- the record of n events that is in a valuation
abbrev pub recorded : {V : Type 0} → Rule → ℕ → List V → List (List V)
recorded r n valuation = rows n (letter_count r) valuation

-- the scratch after the evaluation of m nodes on a record of n events
pub record Filled {V : Type 0} (o : Ops V) (ns : List Node) (m n : ℕ) (rs : List (List V)) (old new : List V) : Type 0 where
  pub here : (j : ℕ) → j < m → slice_index_or new j o.bottom ≡ means o (decode (node_at ns) j) rs
  pub next : 0 < n → (j : ℕ) → j < m → slice_index_or new (m + j) o.bottom ≡ means o (decode (node_at ns) j) (drop 1 rs)
  pub alone : n ≡ 0 → drop m new ≡ drop m old
  pub rest : drop (2 * m) new ≡ drop (2 * m) old
