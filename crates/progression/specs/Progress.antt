-- The residual: what is left of a rule after some events, as a polynomial in the values that its obligations will have on the rest.
-- Variable i is the value of the obligation with the number i. An event is the number of the set of its letters. Assumes nothing.
use Rattle.std.specs.Prelude.{ℕ, zero, suc, ◌-◌, Bool, true, false, cond, ◌&&◌, List, [], ◌∷◌, nat_le, nat_lt}
use Rattle.rules.specs.Rules.{node_count}
use Rattle.rules.specs.Tree.{decode}
use Rattle.rules.specs.declared.node.Unary.{Unary}
use Rattle.rules.specs.declared.node.Binary.{Binary}
use Rattle.rules.specs.declared.node.Node.{Node}
use Rattle.rules.specs.declared.rule.Rule.{Rule}
use Rattle.verdicts.specs.Meaning.{means}
use Rattle.verdicts.specs.YesNo.{yes_no}
use Rattle.verdicts.specs.declared.scale.YesNo.{YesNo}
use Rattle.polynomials.specs.Polynomial.{Polynomial, one, variable, sum, product, substitute, step}
use Rattle.polynomials.specs.Sets.{bit_at, set_below}
use Rattle.reachable.specs.Reach.{Moves}
use Rattle.progression.specs.Obligations.{node_of, obligations, number, place}

-- the constant 0, and that of a known value
unfoldable pub nothing : Polynomial
nothing s = false

abbrev pub known : Bool → Polynomial
known b = cond b one nothing

-- THE POLYNOMIAL OF AN OPERATOR at an event: x and y are those of its operands there, `next` is its operand's value after the event,
-- and `own` is its own value after the event
abbrev pub unary_poly : Unary → Polynomial → Polynomial → Polynomial → Polynomial
unary_poly Unary.Not x next own = sum one x
unary_poly Unary.Always x next own = product x own
unary_poly Unary.Eventually x next own = sum (sum x own) (product x own)
unary_poly Unary.Next x next own = next

abbrev pub binary_poly : Binary → Polynomial → Polynomial → Polynomial → Polynomial
binary_poly Binary.Until x y own = sum (sum y (product x own)) (product (product x y) own)
binary_poly Binary.And x y own = product x y
binary_poly Binary.Xor x y own = sum x y
binary_poly Binary.Or x y own = sum (sum x y) (product x y)
binary_poly Binary.Implies x y own = sum (sum one x) (product x y)
binary_poly Binary.Iff x y own = sum (sum one x) y

-- the polynomial of a node at an event, from the letters there, the polynomials there of the nodes before it, and those of the values
-- after the event
abbrev pub node_poly : (ℕ → Bool) → (ℕ → Polynomial) → (ℕ → Polynomial) → Polynomial → Node → Polynomial
node_poly letters here next own (Node.Letter l) = known (letters l)
node_poly letters here next own (Node.Truth v) = known v
node_poly letters here next own (Node.Before u a) = unary_poly u (here a) (next a) own
node_poly letters here next own (Node.Between b x y) = binary_poly b (here x) (here y) own

-- the letters of the set with the number a: letter l is worth 2 ^ l
abbrev pub letters_in : ℕ → ℕ → Bool
letters_in a l = bit_at l a

-- the value of node j after the event, as a variable
abbrev pub later : Rule → ℕ → Polynomial
later r j = variable (number r j)

-- the polynomial of node j at an event, followed at most d deep; and as deep as it goes
unfoldable pub poly_within : ℕ → Rule → ℕ → ℕ → Polynomial
poly_within zero r a j = nothing
poly_within (suc d) r a j = node_poly (letters_in a) (poly_within d r a) (later r) (later r j) (node_of r j)

unfoldable pub poly_at : Rule → ℕ → ℕ → Polynomial
poly_at r a j = poly_within (suc j) r a j

-- WHAT AN EVENT PUTS IN THE PLACE of the obligation with the number i + 1: the polynomial of its node there
unfoldable pub change : Rule → ℕ → ℕ → Polynomial
change r a i = cond (nat_lt i (obligations r)) (poly_at r a (place r i)) nothing

-- THE FRESH RESIDUAL: the root's obligation alone. A rule with more than eight obligations is not monitored: in its place is the
-- constant 0, so that it is never said to be kept
unfoldable pub fresh : Rule → Polynomial
fresh r = cond (nat_le (obligations r) 8) (later r (node_count r - 1)) nothing

-- a residual carried over some events
abbrev pub carry : Rule → Polynomial → List ℕ → Polynomial
carry r R [] = R
carry r R (a ∷ es) = carry r (substitute R (change r a)) es

-- THE RESIDUAL after some events
abbrev pub residual : Rule → List ℕ → Polynomial
residual r es = carry r (fresh r) es

abbrev pub is_kept : YesNo → Bool
is_kept YesNo.Broken = false
is_kept YesNo.Kept = true

-- THE END VALUES: the vector of the values that the obligations have on the empty rest
unfoldable pub at_end : Rule → ℕ
at_end r = set_below 8 (λ i. nat_lt i (obligations r) && is_kept (means yes_no (decode (node_of r) (place r i)) []))

-- how the vectors of the obligations' values follow one another, from the end of a rest to its beginning
abbrev pub moves_of : Rule → (ℕ → Bool) → Moves
moves_of r possible = record { start = at_end r; step = λ a v. step (change r a) v; possible = possible }
