-- The order of the written claims, and that each rests on earlier ones. Assumes nothing.
use Rattle.std.proofs.Common.{◌≡◌, ℕ, suc, ◌+◌, ◌-◌, ◌*◌, ◌/◌, ◌%◌, ◌<◌, ◌≤◌, Bool, true, false, cond, length, sym, refl, ap, ◌∙◌, subst, ap₂, suc-mul, mul_comm, arith}
use Rattle.std.proofs.lemmas.Nat.{div-add-mod', mul-add-lt, div-mul-add, mod-mul-add, div_below, mod_below}
use Rattle.std.proofs.lemmas.Bool.{ltb-true}
use Rattle.rules.specs.Rules.{node_count, nodes_of}
use Rattle.rules.specs.Tree.{node_at}
use Rattle.rules.specs.declared.node.Unary.{Unary}
use Rattle.rules.specs.declared.node.Binary.{Binary}
use Rattle.rules.specs.declared.node.Node.{Node}
use Rattle.verdicts.specs.Case.{Case}
use Rattle.verdicts.specs.Meaning.{constant}
use Rattle.verdicts.specs.Step.{Below, unary_end, binary_end}
use Rattle.verdicts.specs.YesNo.{yes_no}
use Rattle.verdicts.specs.declared.scale.YesNo.{YesNo}
use Rattle.verdicts.specs.declared.scale.YesNo.TheVariants.{Broken, Kept}
use Rattle.verdicts.proofs.Rules.{nodes_ordered}
use Rattle.claims.specs.Ways.{fact, only, all, any, alike, comes, before_ways, between_ways, ways, is_event, letter_at, ways_at, stands}
use Rattle.claims.specs.Written.{claim_count, index, chosen, Earlier, OfGrounds, OfWays}
use Rattle.claims.specs.declared.claim.Sign.{Sign}
use Rattle.claims.specs.declared.claim.Sign.TheVariants.{Holds, Fails}
use Rattle.claims.specs.declared.grounds.Fact.{Fact}
use Rattle.claims.specs.declared.grounds.Grounds.{Grounds}
use Rattle.claims.specs.declared.grounds.Grounds.TheVariants.{Nothing, One, Both}
use Rattle.claims.specs.declared.grounds.Ways.{Ways}
use Rattle.claims.specs.declared.grounds.Ways.TheVariants.{Never, By, Either}

-- the claim at index i is on node i % m at place n - i / m
module _ (n m i : ℕ) (some : 0 < m) (low : i < (n + 1) * m) where
  pub place_low : i / m ≤ n
  place_low = omega (arith, div_below i m (n + 1) some low)

  pub index_back : index n m (n - i / m) (i % m) ≡ i
  index_back = let h = place_low in let e : n - (n - i / m) ≡ i / m = omega arith in rw e (div-add-mod' i m)

module _ (n m q j : ℕ) (low : q ≤ n) (within : j < m) where
  pub index_place : n - index n m q j / m ≡ q
  index_place = let e = div-mul-add (n - q) m j within in omega arith

  pub index_node : index n m q j % m ≡ j
  index_node = mod-mul-add (n - q) m j within

  pub index_low : index n m q j < (n + 1) * m
  index_low = omega (arith, mul-add-lt (n - q) m j (n + 1) (omega arith) within, mul_comm m (n + 1))

earlier_here : (n m q j a : ℕ) → q ≤ n → j < m → a < j → Earlier n m (index n m q j) (fact q a Holds)
earlier_here n m q j a low within h = (low, omega arith, omega arith)

earlier_next : (n m q j a : ℕ) → q < n → a < m → Earlier n m (index n m q j) (fact (q + 1) a Holds)
earlier_next n m q j a low h =
    let d = n - (q + 1) in
    let e : n - q ≡ suc d = omega arith in
    (omega arith, h, rw e (omega (arith, suc-mul d m)))

-- what holds of each fact
grounds_map : (P Q : Fact → Type 0) → ((x : Fact) → P x → Q x) → (g : Grounds) → OfGrounds P g → OfGrounds Q g
grounds_map P Q f Nothing h = tt
grounds_map P Q f (One x) h = f x h
grounds_map P Q f (Both x y) h = (f x h.0, f y h.1)

pub ways_map : (P Q : Fact → Type 0) → ((x : Fact) → P x → Q x) → (w : Ways) → OfWays P w → OfWays Q w
ways_map P Q f Never h = tt
ways_map P Q f (By g) h = grounds_map P Q f g h
ways_map P Q f (Either g k) h = (grounds_map P Q f g h.0, grounds_map P Q f k h.1)

chosen_of : (P : Fact → Type 0) (t : ℕ → ℕ → YesNo) (w : Ways) → OfWays P w → OfGrounds P (chosen t w)
chosen_of P t Never h = tt
chosen_of P t (By g) h = h
chosen_of P t (Either g k) h = elim (stands t g) as (λ b. OfGrounds P (cond b g k)) [ true ↦ h.0 | false ↦ h.1 ]

-- what is said of places and nodes alone
module _ (E : ℕ → ℕ → Type 0) where
  abbrev on : Fact → Type 0
  on x = E x.place x.node

  only_of : (v : YesNo) (s : Sign) → OfWays on (only v s)
  only_of Kept Holds = tt
  only_of Kept Fails = tt
  only_of Broken Holds = tt
  only_of Broken Fails = tt

  module _ (x y : Fact) (h : on x) (k : on y) where
    all_of : (s : Sign) → OfWays on (all x y s)
    all_of Holds = (h, k)
    all_of Fails = (h, k)

    any_of : (s : Sign) → OfWays on (any x y s)
    any_of Holds = (h, k)
    any_of Fails = (h, k)

    alike_of : (s : Sign) → OfWays on (alike x y s)
    alike_of Holds = ((h, k), (h, k))
    alike_of Fails = ((h, k), (h, k))

    comes_of : (z : Fact) → on z → (s : Sign) → OfWays on (comes x y z s)
    comes_of z l Holds = (k, (h, l))
    comes_of z l Fails = ((k, h), (k, l))

  -- a node rests on nodes before it at its place, and at the next place on nodes before it and itself
  module _ (q j : ℕ) (here : (a : ℕ) → a < j → E q a) (s : Sign) where
    before_of : (event : Bool) → (event ≡ true → (a : ℕ) → a ≤ j → E (q + 1) a) → (u : Unary) (a : ℕ) → a < j → OfWays on (before_ways event q j u a s)
    before_of event next Unary.Not a low = here a low
    before_of true next Unary.Always a low = all_of (fact q a Holds) (fact (q + 1) j Holds) (here a low) (next refl j (omega arith)) s
    before_of false next Unary.Always a low = only_of (unary_end yes_no Unary.Always Broken) s
    before_of true next Unary.Eventually a low = any_of (fact q a Holds) (fact (q + 1) j Holds) (here a low) (next refl j (omega arith)) s
    before_of false next Unary.Eventually a low = only_of (unary_end yes_no Unary.Eventually Broken) s
    before_of true next Unary.Next a low = next refl a (omega arith)
    before_of false next Unary.Next a low = only_of (unary_end yes_no Unary.Next Broken) s

    between_of : (event : Bool) → (event ≡ true → (a : ℕ) → a ≤ j → E (q + 1) a) → (o : Binary) (a b : ℕ) → (a < j) × (b < j) → OfWays on (between_ways event q j o a b s)
    between_of true next Binary.Until a b low = comes_of (fact q a Holds) (fact q b Holds) (here a low.0) (here b low.1) (fact (q + 1) j Holds) (next refl j (omega arith)) s
    between_of false next Binary.Until a b low = only_of (binary_end yes_no Binary.Until Broken Broken) s
    between_of event next Binary.And a b low = all_of (fact q a Holds) (fact q b Holds) (here a low.0) (here b low.1) s
    between_of event next Binary.Xor a b low = alike_of (fact q a Holds) (fact q b Fails) (here a low.0) (here b low.1) s
    between_of event next Binary.Or a b low = any_of (fact q a Holds) (fact q b Holds) (here a low.0) (here b low.1) s
    between_of event next Binary.Implies a b low = any_of (fact q a Fails) (fact q b Holds) (here a low.0) (here b low.1) s
    between_of event next Binary.Iff a b low = alike_of (fact q a Holds) (fact q b Holds) (here a low.0) (here b low.1) s

    rests_on : (letters : ℕ → YesNo) (event : Bool) → (event ≡ true → (a : ℕ) → a ≤ j → E (q + 1) a) → (n : Node) → Below j n → OfWays on (ways event letters q j n s)
    rests_on letters event next (Node.Letter l) low = only_of (letters l) s
    rests_on letters event next (Node.Truth v) low = only_of (constant yes_no v) s
    rests_on letters event next (Node.Before u a) low = before_of event next u a low
    rests_on letters event next (Node.Between o a b) low = between_of event next o a b low

module _ (k : Case) (noded : length (nodes_of k.rule) ≡ node_count k.rule) where
  abbrev n : ℕ
  n = length k.trace

  abbrev m : ℕ
  m = node_count k.rule

  pub early : (q j : ℕ) (s : Sign) → q ≤ n → j < m → OfWays (Earlier n m (index n m q j)) (ways_at k q j s)
  early q j s low within =
      let E : ℕ → ℕ → Type 0 = λ p a. Earlier n m (index n m q j) (fact p a Holds) in
      rests_on E q j (λ a h. earlier_here n m q j a low within h) s (letter_at k q) (is_event k q)
      (λ e a h. earlier_next n m q j a (ltb-true q n e) (omega arith)) (node_at (nodes_of k.rule) j) (nodes_ordered k.rule noded j (omega arith))

  -- the same at index i
  pub early_at : (i : ℕ) (s : Sign) → i < claim_count k → OfWays (Earlier n m i) (ways_at k (n - i / m) (i % m) s)
  early_at i s low =
      let some : 0 < m = k.rule.some in
      let q = n - i / m in
      let j = i % m in
      subst (λ b. OfWays (Earlier n m b) (ways_at k q j s)) (index_back n m i some low) (early q j s (omega arith) (mod_below i m some))

  -- the same for a number of nodes, a place, a node and ways that calls give
  pub early_by : (nodes i q j : ℕ) (s : Sign) (w : Ways) → nodes ≡ m → q ≡ n - i / nodes → j ≡ i % nodes → w ≡ ways_at k q j s → i < claim_count k →
      OfWays (Earlier n nodes i) w
  early_by nodes i q j s w e at own is low =
      let same : w ≡ ways_at k (n - i / m) (i % m) s = is ∙ ap₂ (λ a b. ways_at k a b s) (at ∙ ap (λ a. n - i / a) e) (own ∙ ap (λ a. i % a) e) in
      subst (λ a. OfWays (Earlier n a i) w) (sym e) (subst (OfWays (Earlier n m i)) (sym same) (early_at i s low))

pub chosen_by : (P : Fact → Type 0) (t : ℕ → ℕ → YesNo) (w : Ways) (g : Grounds) → g ≡ chosen t w → OfWays P w → OfGrounds P g
chosen_by P t w g is h = subst (OfGrounds P) (sym is) (chosen_of P t w h)
