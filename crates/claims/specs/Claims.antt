-- Which claims are supported, what a check of a list of claims answers, and which claims are true. Assumes nothing.
use Rattle.std.specs.Prelude.{◌≡◌, ℕ, ◌+◌, ◌-◌, ◌<◌, Bool, true, false, cond, ◌&&◌, ◌||◌, List, length, drop, Some, None, Ok, Option, Result, ◌==◌, nat_le, nat_lt, slice_index_or}
use Rattle.rules.specs.First.{answer, first, or_else}
use Rattle.rules.specs.Rules.{node_count, nodes_of, tree_of_rule}
use Rattle.rules.specs.Tree.{decode, node_at}
use Rattle.rules.specs.declared.fault.Fault.{Fault}
use Rattle.rules.specs.declared.fault.Fault.TheVariants.{ManyEvents, BadEnd, Unsupported}
-- a case, its record and its verdict belong to evaluation, and may be named from here
pub use Rattle.verdicts.specs.Case.{Case, record_of, verdict}
use Rattle.verdicts.specs.Meaning.{means}
use Rattle.verdicts.specs.Outcome.{recorded}
use Rattle.verdicts.specs.Valuation.{laid, Laid, wrong_event}
use Rattle.verdicts.specs.YesNo.{yes_no}
use Rattle.verdicts.specs.declared.scale.YesNo.{YesNo}
use Rattle.verdicts.specs.declared.scale.YesNo.TheVariants.{Broken}
use Rattle.claims.specs.Ways.{ways_at, verdict_of}
use Rattle.claims.specs.declared.claim.Claim.{Claim}
use Rattle.claims.specs.declared.claim.Sign.{Sign}
use Rattle.claims.specs.declared.claim.Sign.TheVariants.{Holds, Fails}
use Rattle.claims.specs.declared.grounds.Fact.{Fact}
use Rattle.claims.specs.declared.grounds.Grounds.{Grounds}
use Rattle.claims.specs.declared.grounds.Grounds.TheVariants.{Nothing, One, Both}
use Rattle.claims.specs.declared.grounds.Ways.{Ways}
use Rattle.claims.specs.declared.grounds.Ways.TheVariants.{Never, By, Either}

-- the claim at index i, which has the number i + 1
abbrev pub claim_at : List Claim → ℕ → Claim
claim_at cs i = slice_index_or cs i (record { place = 0; node = 0; sign = Holds; first = 0; second = 0 })

abbrev pub same_sign : Sign → Sign → Bool
same_sign Holds Holds = true
same_sign Holds Fails = false
same_sign Fails Holds = false
same_sign Fails Fails = true

-- a claim says a fact: claims count places and nodes from 1
abbrev pub says : Claim → Fact → Bool
says c x = c.place == x.place + 1 && c.node == x.node + 1 && same_sign c.sign x.sign

-- k is the number of one of the first i claims, and that claim says a fact
abbrev pub cites : List Claim → ℕ → ℕ → Fact → Bool
cites cs i k x = nat_lt 0 k && nat_le k i && says (claim_at cs (k - 1)) x

-- a claim after the first i claims cites just these facts, in their order
abbrev pub rests : List Claim → ℕ → Claim → Grounds → Bool
rests cs i c Nothing = c.first == 0 && c.second == 0
rests cs i c (One x) = cites cs i c.first x && c.second == 0
rests cs i c (Both x y) = cites cs i c.first x && cites cs i c.second y

abbrev pub meets : List Claim → ℕ → Claim → Ways → Bool
meets cs i c Never = false
meets cs i c (By g) = rests cs i c g
meets cs i c (Either g h) = rests cs i c g || rests cs i c h

-- a claim is on one of m nodes at one of n + 1 places
abbrev pub placed : ℕ → ℕ → Claim → Bool
placed n m c = nat_lt 0 c.place && nat_le c.place (n + 1) && nat_lt 0 c.node && nat_le c.node m

-- CLAIM c, AFTER THE FIRST i CLAIMS, IS SUPPORTED
abbrev pub supported : Case → List Claim → ℕ → Claim → Bool
supported k cs i c = placed (length k.trace) (node_count k.rule) c && meets cs i c (ways_at k (c.place - 1) (c.node - 1) c.sign)

abbrev pub last_of : List Claim → Claim
last_of cs = claim_at cs (length cs - 1)

-- the last claim is on the last of m nodes, the whole rule, at the first place
abbrev pub rooted : ℕ → List Claim → Bool
rooted m cs = nat_lt 0 (length cs) && (last_of cs).place == 1 && (last_of cs).node == m

-- what is wrong with the first wrong event: a high code, or doubt, since claims take none
abbrev pub wrong : Case → Option Fault
wrong k = first (length k.trace) (wrong_event k.meaning false k.numbers k.trace)

-- what is wrong with a trace
unfoldable pub unheard : Case → Option Fault
unheard k = cond (nat_lt 4095 (length k.trace)) (Some ManyEvents) (wrong k)

-- what is wrong with the end of a list of claims
abbrev pub bad_end : ℕ → List Claim → Option Fault
bad_end m cs = cond (rooted m cs) None (Some (BadEnd (length cs)))

-- what is wrong with the claim at index i
abbrev pub unsupported_at : Case → List Claim → ℕ → Option Fault
unsupported_at k cs i = cond (supported k cs i (claim_at cs i)) None (Some (Unsupported (i + 1)))

unfoldable pub unsupported : Case → List Claim → Option Fault
unsupported k cs = first (length cs) (unsupported_at k cs)

-- WHY A LIST OF CLAIMS IS REFUSED
unfoldable pub refusal : Case → List Claim → Option Fault
refusal k cs = or_else (unheard k) (or_else (bad_end (node_count k.rule) cs) (unsupported k cs))

-- WHAT A CHECK ANSWERS
abbrev pub checked : Case → List Claim → Result YesNo Fault
checked k cs = answer (refusal k cs) (verdict_of (last_of cs).sign)

-- what node j means at place q, both counted from 0
abbrev pub meant : Case → ℕ → ℕ → YesNo
meant k q j = means yes_no (decode (node_at (nodes_of k.rule)) j) (drop q (record_of k))

-- A CLAIM IS TRUE by the rule's meaning
abbrev pub True : Case → Claim → Type 0
True k c = meant k (c.place - 1) (c.node - 1) ≡ verdict_of c.sign

-- every claim of an accepted list is true
abbrev pub Sound : Case → List Claim → Type 0
Sound k cs = (v : YesNo) → checked k cs ≡ Ok v → (i : ℕ) → i < length cs → True k (claim_at cs i)

-- on a trace that is not refused, some list is accepted with a verdict just where the rule means that verdict
abbrev pub Exact : Case → Type 0
Exact k =
    (v : YesNo) →
    (((cs : List Claim) × (checked k cs ≡ Ok v)) → verdict k ≡ v)
    × (unheard k ≡ None → verdict k ≡ v → (cs : List Claim) × (checked k cs ≡ Ok v))

-- an evaluation on a valuation that was laid for the trace answers this verdict
abbrev pub Evaluated : Case → Type 0
Evaluated k =
    (old new : List YesNo) → Laid (laid yes_no Broken k.meaning k.numbers k.trace) old new →
    means yes_no (tree_of_rule k.rule) (recorded k.rule (length k.trace) new) ≡ verdict k
