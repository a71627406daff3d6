-- What the value of a node at a place can rest on: the rules of support, one clause for each kind of node. Assumes nothing.
-- Places and nodes count from 0 here, as in the table of nodes: place n is the empty rest of a trace of n events.
use Rattle.std.specs.Prelude.{ℕ, ◌+◌, Bool, true, false, cond, ◌&&◌, ◌||◌, length, nat_lt, slice_index}
use Rattle.rules.specs.Rules.{nodes_of}
use Rattle.rules.specs.Tree.{node_at}
use Rattle.rules.specs.declared.node.Unary.{Unary}
use Rattle.rules.specs.declared.node.Binary.{Binary}
use Rattle.rules.specs.declared.node.Node.{Node}
use Rattle.readings.specs.Meaning.{mark_of}
pub use Rattle.verdicts.specs.Case.{Case, case_of}
use Rattle.verdicts.specs.Meaning.{constant}
use Rattle.verdicts.specs.Valuation.{worth_of}
use Rattle.verdicts.specs.YesNo.{yes_no}
use Rattle.verdicts.specs.declared.scale.YesNo.{YesNo}
use Rattle.verdicts.specs.declared.scale.YesNo.TheVariants.{Broken, Kept}
use Rattle.claims.specs.declared.claim.Sign.{Sign}
use Rattle.claims.specs.declared.claim.Sign.TheVariants.{Holds, Fails}
use Rattle.claims.specs.declared.grounds.Fact.{Fact}
use Rattle.claims.specs.declared.grounds.Grounds.{Grounds}
use Rattle.claims.specs.declared.grounds.Grounds.TheVariants.{Nothing, One, Both}
use Rattle.claims.specs.declared.grounds.Ways.{Ways}
use Rattle.claims.specs.declared.grounds.Ways.TheVariants.{Never, By, Either}

abbrev pub other : Sign → Sign
other Holds = Fails
other Fails = Holds

abbrev pub fact : ℕ → ℕ → Sign → Fact
fact q j s = record { place = q; node = j; sign = s }

abbrev pub turned : Fact → Fact
turned x = fact x.place x.node (other x.sign)

-- a value that is known
abbrev pub only : YesNo → Sign → Ways
only Kept Holds = By Nothing
only Kept Fails = Never
only Broken Holds = Never
only Broken Fails = By Nothing

-- both of two facts
abbrev pub all : Fact → Fact → Sign → Ways
all x y Holds = By (Both x y)
all x y Fails = Either (One (turned x)) (One (turned y))

-- one of two facts
abbrev pub any : Fact → Fact → Sign → Ways
any x y Holds = Either (One x) (One y)
any x y Fails = By (Both (turned x) (turned y))

-- both or neither of two facts
abbrev pub alike : Fact → Fact → Sign → Ways
alike x y Holds = Either (Both x y) (Both (turned x) (turned y))
alike x y Fails = Either (Both x (turned y)) (Both (turned x) y)

-- the second fact, or the first with the third
abbrev pub comes : Fact → Fact → Fact → Sign → Ways
comes x y z Holds = Either (One y) (Both x z)
comes x y z Fails = Either (Both (turned y) (turned x)) (Both (turned y) (turned z))

-- node j at place q, an operator before node a; `event` says whether q is an event
abbrev pub before_ways : Bool → ℕ → ℕ → Unary → ℕ → Sign → Ways
before_ways event q j Unary.Not a s = By (One (fact q a (other s)))
before_ways event q j Unary.Always a s = cond event (all (fact q a Holds) (fact (q + 1) j Holds) s) (only Kept s)
before_ways event q j Unary.Eventually a s = cond event (any (fact q a Holds) (fact (q + 1) j Holds) s) (only Broken s)
before_ways event q j Unary.Next a s = cond event (By (One (fact (q + 1) a s))) (only Broken s)

-- the same, an operator between nodes a and b
abbrev pub between_ways : Bool → ℕ → ℕ → Binary → ℕ → ℕ → Sign → Ways
between_ways event q j Binary.Until a b s = cond event (comes (fact q a Holds) (fact q b Holds) (fact (q + 1) j Holds) s) (only Broken s)
between_ways event q j Binary.And a b s = all (fact q a Holds) (fact q b Holds) s
between_ways event q j Binary.Xor a b s = alike (fact q a Holds) (fact q b Fails) s
between_ways event q j Binary.Or a b s = any (fact q a Holds) (fact q b Holds) s
between_ways event q j Binary.Implies a b s = any (fact q a Fails) (fact q b Holds) s
between_ways event q j Binary.Iff a b s = alike (fact q a Holds) (fact q b Holds) s

-- WHAT NODE j AT PLACE q RESTS ON, to hold or to fail; `letter` gives the letters of the place
abbrev pub ways : Bool → (ℕ → YesNo) → ℕ → ℕ → Node → Sign → Ways
ways event letter q j (Node.Letter l) s = only (letter l) s
ways event letter q j (Node.Truth v) s = only (constant yes_no v) s
ways event letter q j (Node.Before u a) s = before_ways event q j u a s
ways event letter q j (Node.Between o a b) s = between_ways event q j o a b s

-- whether place q is an event
abbrev pub is_event : Case → ℕ → Bool
is_event k q = nat_lt q (length k.trace)

-- letter l at place q: off at the empty rest
abbrev pub letter_at : Case → ℕ → ℕ → YesNo
letter_at k q l = cond (is_event k q) (worth_of yes_no Broken (mark_of k.meaning (slice_index k.trace q) (slice_index k.numbers l))) Broken

abbrev pub ways_at : Case → ℕ → ℕ → Sign → Ways
ways_at k q j s = ways (is_event k q) (letter_at k q) q j (node_at (nodes_of k.rule) j) s

-- the verdict that a sign says
abbrev pub verdict_of : Sign → YesNo
verdict_of Holds = Kept
verdict_of Fails = Broken

abbrev pub sign_of : YesNo → Sign
sign_of Kept = Holds
sign_of Broken = Fails

-- a sign says this value
abbrev pub agree : Sign → YesNo → Bool
agree Holds Kept = true
agree Holds Broken = false
agree Fails Kept = false
agree Fails Broken = true

-- with the values of all nodes at all places: a fact is true, all facts of some grounds are, those of one of the ways are
module _ (t : ℕ → ℕ → YesNo) where
  abbrev pub is_true : Fact → Bool
  is_true x = agree x.sign (t x.place x.node)

  abbrev pub stands : Grounds → Bool
  stands Nothing = true
  stands (One x) = is_true x
  stands (Both x y) = is_true x && is_true y

  abbrev pub given : Ways → Bool
  given Never = false
  given (By g) = stands g
  given (Either g h) = stands g || stands h
