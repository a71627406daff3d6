-- Which claims are written, where, and why their writing is refused. Assumes nothing.
use Rattle.std.specs.Prelude.{◌≡◌, ℕ, ◌+◌, ◌-◌, ◌*◌, ◌<◌, ◌≤◌, Bool, cond, List, length, take, drop, Some, Ok, Option, nat_lt}
use Rattle.rules.specs.Rules.{node_count}
use Rattle.rules.specs.declared.fault.Fault.{Fault}
use Rattle.rules.specs.declared.fault.Fault.TheVariants.{ManyEvents, ShortBuffer}
use Rattle.verdicts.specs.Case.{Case, verdict}
use Rattle.verdicts.specs.declared.scale.YesNo.{YesNo}
use Rattle.claims.specs.Ways.{ways_at, verdict_of, sign_of, stands, given}
use Rattle.claims.specs.Claims.{claim_at, meant, checked, wrong}
use Rattle.claims.specs.Any.{ToEach}
use Rattle.claims.specs.declared.claim.Claim.{Claim}
use Rattle.claims.specs.declared.claim.Sign.{Sign}
use Rattle.claims.specs.declared.claim.Sign.TheVariants.{Holds, Fails}
use Rattle.claims.specs.declared.grounds.Fact.{Fact}
use Rattle.claims.specs.declared.grounds.Grounds.{Grounds}
use Rattle.claims.specs.declared.grounds.Grounds.TheVariants.{Nothing, One, Both}
use Rattle.claims.specs.declared.grounds.Ways.{Ways}
use Rattle.claims.specs.declared.grounds.Ways.TheVariants.{Never, By, Either}

-- how many claims are written
abbrev pub claim_count : Case → ℕ
claim_count k = (length k.trace + 1) * node_count k.rule

-- the index of the claim on node j at place q, for n events and m nodes, and its number
abbrev pub index : ℕ → ℕ → ℕ → ℕ → ℕ
index n m q j = (n - q) * m + j

abbrev pub number : ℕ → ℕ → Fact → ℕ
number n m x = index n m x.place x.node + 1

-- the first of the ways whose facts are all true
abbrev pub chosen : (ℕ → ℕ → YesNo) → Ways → Grounds
chosen t Never = Nothing
chosen t (By g) = g
chosen t (Either g h) = cond (stands t g) g h

abbrev pub first_of : ℕ → ℕ → Grounds → ℕ
first_of n m Nothing = 0
first_of n m (One x) = number n m x
first_of n m (Both x y) = number n m x

abbrev pub second_of : ℕ → ℕ → Grounds → ℕ
second_of n m Nothing = 0
second_of n m (One x) = 0
second_of n m (Both x y) = number n m y

-- the claim on node j at place q, with a sign and the grounds for it
abbrev pub claim_on : ℕ → ℕ → ℕ → ℕ → Sign → Grounds → Claim
claim_on n m q j s g = record { place = q + 1; node = j + 1; sign = s; first = first_of n m g; second = second_of n m g }

-- the same, with the grounds that are chosen by the values of the nodes
abbrev pub claim_by : Case → (ℕ → ℕ → YesNo) → ℕ → ℕ → Sign → Claim
claim_by k t q j s = claim_on (length k.trace) (node_count k.rule) q j s (chosen t (ways_at k q j s))

-- THE CLAIM THAT IS WRITTEN on node j at place q: what the node means there, on the first grounds that are true
unfoldable pub claim_of : Case → ℕ → ℕ → Claim
claim_of k q j = claim_by k (meant k) q j (sign_of (meant k q j))

-- the values that a list of claims shows
abbrev pub shown : ℕ → ℕ → List Claim → ℕ → ℕ → YesNo
shown n m cs q j = verdict_of (claim_at cs (index n m q j)).sign

-- a sign from a test
abbrev pub sign_if : Bool → Sign
sign_if b = cond b Holds Fails

-- the claim at index i by what the claims before it show
abbrev pub claim_next : Case → List Claim → ℕ → ℕ → Claim
claim_next k cs q j =
    claim_by k (shown (length k.trace) (node_count k.rule) cs) q j (sign_if (given (shown (length k.trace) (node_count k.rule) cs) (ways_at k q j Holds)))

-- a fact that is among the first i claims
abbrev pub Earlier : ℕ → ℕ → ℕ → Fact → Type 0
Earlier n m i x = (x.place ≤ n) × (x.node < m) × (index n m x.place x.node < i)

-- what holds of each fact of some grounds, and of the ways
abbrev pub OfGrounds : (Fact → Type 0) → Grounds → Type 0
OfGrounds P Nothing = Unit {0}
OfGrounds P (One x) = P x
OfGrounds P (Both x y) = P x × P y

abbrev pub OfWays : (Fact → Type 0) → Ways → Type 0
OfWays P = ToEach (OfGrounds P)

-- WHY THE WRITING IS REFUSED, with room for so many claims
unfoldable pub unwritten : Case → ℕ → Option Fault
unwritten k room =
    cond (nat_lt 4095 (length k.trace)) (Some ManyEvents) (cond (nat_lt room (claim_count k)) (Some (ShortBuffer (claim_count k))) (wrong k))

-- the room after the claims were written into it: each at its number, what lies past them is left, and a check accepts
-- them with what the rule means
pub record Written (k : Case) (old new : List Claim) : Type 0 where
  pub each : (q j : ℕ) → q ≤ length k.trace → j < node_count k.rule → claim_at new (index (length k.trace) (node_count k.rule) q j) ≡ claim_of k q j
  pub past : drop (claim_count k) new ≡ drop (claim_count k) old
  pub accepted : checked k (take (claim_count k) new) ≡ Ok (verdict k)
