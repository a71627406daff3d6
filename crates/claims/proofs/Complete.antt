-- The written claims are accepted with what the rule means. Assumes nothing.
use Rattle.std.proofs.Common.{◌≡◌, ℕ, ◌+◌, ◌-◌, ◌*◌, ◌/◌, ◌%◌, ◌<◌, ◌≤◌, Bool, true, false, cond, ◌&&◌, ◌||◌, eqb, ltb, ◌≢◌, List, map, length, take, drop, set, None, Ok, sym, refl, ap, ◌∙◌, subst, ap₂, add-mul, one-mul, arith, get_or-set_other, get_or-set_same, below_more}
use Rattle.std.specs.List.{range_with_len}
use Rattle.std.proofs.lemmas.Nat.{mod_below, mul-le}
use Rattle.std.proofs.lemmas.List.FromFn.{length-map-range_with_len, get_or-map-range_with_len}
use Rattle.std.proofs.lemmas.List.{drop-set-lt, length-take-le, get_or-take}
use Rattle.std.proofs.lemmas.Bool.{and_parts, and_from, eq-eqb, lt-ltb, or_left, or_right}
use Rattle.rules.specs.Rules.{node_count}
use Rattle.verdicts.specs.Case.{Case, verdict}
use Rattle.verdicts.specs.declared.scale.YesNo.{YesNo}
use Rattle.verdicts.specs.declared.scale.YesNo.TheVariants.{Broken, Kept}
use Rattle.claims.specs.Ways.{ways_at, verdict_of, sign_of, agree, is_true, stands, given}
use Rattle.claims.specs.Claims.{claim_at, cites, rests, meets, placed, supported, last_of, unheard, meant, checked, Exact}
use Rattle.claims.specs.Written.{claim_count, index, number, chosen, first_of, second_of, claim_on, claim_by, claim_of, claim_next, shown, sign_if, Earlier, OfGrounds, OfWays, Written}
use Rattle.claims.specs.declared.claim.Claim.{Claim}
use Rattle.claims.specs.declared.claim.Sign.{Sign}
use Rattle.claims.specs.declared.claim.Sign.TheVariants.{Holds, Fails}
use Rattle.claims.specs.declared.grounds.Fact.{Fact}
use Rattle.claims.specs.declared.grounds.Grounds.{Grounds}
use Rattle.claims.specs.declared.grounds.Grounds.TheVariants.{Nothing, One, Both}
use Rattle.claims.specs.declared.grounds.Ways.{Ways}
use Rattle.claims.specs.declared.grounds.Ways.TheVariants.{Never, By, Either}
use Rattle.claims.proofs.Accepted.{accepted_all, cited_all, placed_all}
use Rattle.claims.proofs.Early.{index_back, index_place, index_node, index_low, ways_map, early, early_at}
use Rattle.claims.proofs.Right.{Bound, right_at}
use Rattle.claims.proofs.Sound.{accepted_means}

verdict_back : (v : YesNo) → verdict_of (sign_of v) ≡ v
verdict_back Kept = refl
verdict_back Broken = refl

sign_if_lem : (v : YesNo) → sign_if (agree Holds v) ≡ sign_of v
sign_if_lem Kept = refl
sign_if_lem Broken = refl

agree_own : (v : YesNo) → agree (sign_of v) v ≡ true
agree_own Kept = refl
agree_own Broken = refl

agree_sign : (s : Sign) (v : YesNo) → agree s v ≡ true → sign_of v ≡ s
agree_sign Holds Kept h = refl
agree_sign Holds Broken h = cc
agree_sign Fails Kept h = cc
agree_sign Fails Broken h = refl

-- values that agree on the facts make the same choice
module _ (t u : ℕ → ℕ → YesNo) where
  abbrev Same : Fact → Type 0
  Same x = t x.place x.node ≡ u x.place x.node

  stands_same : (g : Grounds) → OfGrounds Same g → stands t g ≡ stands u g
  stands_same Nothing h = refl
  stands_same (One x) h = ap (agree x.sign) h
  stands_same (Both x y) h = ap₂ ◌&&◌ (ap (agree x.sign) h.0) (ap (agree y.sign) h.1)

  given_same : (w : Ways) → OfWays Same w → given t w ≡ given u w
  given_same Never h = refl
  given_same (By g) h = stands_same g h
  given_same (Either g k) h = ap₂ ◌||◌ (stands_same g h.0) (stands_same k h.1)

  chosen_same : (w : Ways) → OfWays Same w → chosen t w ≡ chosen u w
  chosen_same Never h = refl
  chosen_same (By g) h = refl
  chosen_same (Either g k) h = ap (λ b. cond b g k) (stands_same g h.0)

-- the claim at index i
abbrev claim_no : Case → ℕ → Claim
claim_no k i = claim_of k (length k.trace - i / node_count k.rule) (i % node_count k.rule)

-- the loop that writes, with i claims written
pub record Going (k : Case) (i : ℕ) (old new : List Claim) : Type 0 where
  pub done : (b : ℕ) → b < i → claim_at new b ≡ claim_no k b
  pub rest : drop (claim_count k) new ≡ drop (claim_count k) old

module _ (k : Case) (ok : Bound k) where
  abbrev n : ℕ
  n = length k.trace

  abbrev m : ℕ
  m = node_count k.rule

  -- a list has the claim on each node at each place
  abbrev Each : List Claim → Type 0
  Each cs = (q j : ℕ) → q ≤ n → j < m → claim_at cs (index n m q j) ≡ claim_of k q j

  no_index : (q j : ℕ) → q ≤ n → j < m → claim_no k (index n m q j) ≡ claim_of k q j
  no_index q j low within = ap₂ (claim_of k) (index_place n m q j low within) (index_node n m q j low within)

  claim_sign : (q j : ℕ) → (claim_of k q j).sign ≡ sign_of (meant k q j)
  unfolding claim_of
  claim_sign q j = refl

  -- the claim at index i by what those before it show is the one that is to be written
  claim_next_lem : (cs : List Claim) (i : ℕ) → i < claim_count k → ((b : ℕ) → b < i → claim_at cs b ≡ claim_no k b) →
      claim_next k cs (n - i / m) (i % m) ≡ claim_no k i
  unfolding claim_of
  claim_next_lem cs i low before =
      let q = n - i / m in
      let j = i % m in
      let t = shown n m cs in
      let u = meant k in
      let w : Sign → Ways = ways_at k q j in
      let same : (s : Sign) → OfWays (Same t u) (w s) =
      λ s. ways_map (Earlier n m i) (Same t u)
      (λ x h. ap (λ c. verdict_of c.sign) (before (index n m x.place x.node) h.2 ∙ no_index x.place x.node h.0 h.1) ∙ verdict_back (u x.place x.node))
      (w s) (early_at k ok.noded i s low) in
      let within : j < m = mod_below i m k.rule.some in
      let sign : sign_if (given t (w Holds)) ≡ sign_of (u q j) = ap sign_if (given_same t u (w Holds) (same Holds) ∙ right_at k ok q j Holds within) ∙ sign_if_lem (u q j) in
      ap (claim_by k t q j) sign ∙ ap (claim_on n m q j (sign_of (u q j))) (chosen_same t u (w (sign_of (u q j))) (same (sign_of (u q j))))

  module _ (cs : List Claim) (is : Each cs) where
    citing : (i : ℕ) (x : Fact) → Earlier n m i x → is_true (meant k) x ≡ true → cites cs i (number n m x) x ≡ true
    unfolding claim_of
    citing i x h s =
        let b = index n m x.place x.node in
        let back : b + 1 - 1 ≡ b = omega arith in
        let e : claim_at cs (b + 1 - 1) ≡ claim_of k x.place x.node = ap (claim_at cs) back ∙ is x.place x.node h.0 h.1 in
        cited_all cs i (b + 1) x (record {
          from = omega arith;
          to = omega (arith, h.2);
          place = ap (λ c. c.place) e;
          node = ap (λ c. c.node) e;
          sign = ap (λ c. c.sign) e ∙ agree_sign x.sign (meant k x.place x.node) s;
        })

    resting : (i : ℕ) (c : Claim) (g : Grounds) → c.first ≡ first_of n m g → c.second ≡ second_of n m g → OfGrounds (Earlier n m i) g → stands (meant k) g ≡ true → rests cs i c g ≡ true
    resting i c Nothing f s early h = and_from (eqb c.first 0) (eqb c.second 0) (eq-eqb c.first 0 f) (eq-eqb c.second 0 s)
    resting i c (One x) f s early h = and_from (cites cs i c.first x) (eqb c.second 0) (ap (λ a. cites cs i a x) f ∙ citing i x early h) (eq-eqb c.second 0 s)
    resting i c (Both x y) f s early h =
        let p = and_parts (is_true (meant k) x) (is_true (meant k) y) h in
        and_from (cites cs i c.first x) (cites cs i c.second y) (ap (λ a. cites cs i a x) f ∙ citing i x early.0 p.0) (ap (λ a. cites cs i a y) s ∙ citing i y early.1 p.1)

    either : (i : ℕ) (c : Claim) (g f : Grounds) (b : Bool) → stands (meant k) g ≡ b → c.first ≡ first_of n m (cond b g f) → c.second ≡ second_of n m (cond b g f) →
        OfGrounds (Earlier n m i) g → OfGrounds (Earlier n m i) f → (b || stands (meant k) f) ≡ true → (rests cs i c g || rests cs i c f) ≡ true
    either i c g f true e a s eg ef h = or_left (rests cs i c g) (rests cs i c f) (resting i c g a s eg e)
    either i c g f false e a s eg ef h = or_right (rests cs i c g) (rests cs i c f) (resting i c f a s ef h)

    meeting : (i : ℕ) (c : Claim) (w : Ways) → c.first ≡ first_of n m (chosen (meant k) w) → c.second ≡ second_of n m (chosen (meant k) w) →
        OfWays (Earlier n m i) w → given (meant k) w ≡ true → meets cs i c w ≡ true
    meeting i c Never f s early h = h
    meeting i c (By g) f s early h = resting i c g f s early h
    meeting i c (Either g f) a s early h = either i c g f (stands (meant k) g) refl a s early.0 early.1 h

    claim_supported : (q j i : ℕ) → q ≤ n → j < m → index n m q j ≡ i → supported k cs i (claim_of k q j) ≡ true
    unfolding claim_of
    claim_supported q j i low within at =
        let c = claim_of k q j in
        let w : ℕ → ℕ → Ways = λ p a. ways_at k p a (sign_of (meant k q j)) in
        let early_facts : OfWays (Earlier n m i) (w q j) = subst (λ b. OfWays (Earlier n m b) (w q j)) at (early k ok.noded q j (sign_of (meant k q j)) low within) in
        let by : meets cs i c (w q j) ≡ true = meeting i c (w q j) refl refl early_facts (right_at k ok q j (sign_of (meant k q j)) within ∙ agree_own (meant k q j)) in
        let back : w (q + 1 - 1) (j + 1 - 1) ≡ w q j = let e : q + 1 - 1 ≡ q = omega arith in let f : j + 1 - 1 ≡ j = omega arith in ap₂ w e f in
        let stands_at : placed n m c ≡ true = placed_all n m c (record { from = omega arith; to = omega arith; first = omega arith; last = omega arith }) in
        and_from (placed n m c) (meets cs i c (w (q + 1 - 1) (j + 1 - 1))) stands_at (ap (meets cs i c) back ∙ by)

    all_supported : (i : ℕ) → i < claim_count k → supported k cs i (claim_at cs i) ≡ true
    all_supported i low =
        let q = n - i / m in
        let j = i % m in
        let within : j < m = mod_below i m k.rule.some in
        let back = index_back n m i k.rule.some low in
        let e : claim_at cs i ≡ claim_of k q j = ap (claim_at cs) (sym back) ∙ is q j (omega arith) within in
        ap (supported k cs i) e ∙ claim_supported q j i (omega arith) within back

  -- the last claim is on the whole rule at the first place
  last_index : claim_count k - 1 ≡ index n m 0 (m - 1)
  last_index =
      let some : 0 < m = k.rule.some in
      let e : n - 0 ≡ n = omega arith in
      let more : (n + 1) * m ≡ n * m + m = add-mul n 1 m ∙ ap (λ b. n * m + b) (one-mul m) in
      rw e (omega arith)

  pub complete : (cs : List Claim) → unheard k ≡ None → length cs ≡ claim_count k → Each cs → checked k cs ≡ Ok (verdict k)
  unfolding claim_of
  complete cs heard size is =
      let some : 0 < m = k.rule.some in
      let positive : 1 * 1 ≤ (n + 1) * m = mul-le 1 1 (n + 1) m (omega arith) some in
      let long : 0 < length cs = omega arith in
      let at : length cs - 1 ≡ index n m 0 (m - 1) = ap (λ b. b - 1) size ∙ last_index in
      let root : last_of cs ≡ claim_of k 0 (m - 1) = ap (claim_at cs) at ∙ is 0 (m - 1) (omega arith) (omega arith) in
      let node : (last_of cs).node ≡ m = ap (λ c. c.node) root ∙ omega arith in
      accepted_all k cs (verdict k) (record {
        heard = heard;
        ends = and_from (ltb 0 (length cs) && eqb (last_of cs).place 1) (eqb (last_of cs).node m)
            (and_from (ltb 0 (length cs)) (eqb (last_of cs).place 1) (lt-ltb 0 (length cs) long) (eq-eqb (last_of cs).place 1 (ap (λ c. c.place) root)))
            (eq-eqb (last_of cs).node m node);
        each = λ i h. all_supported cs is i (omega arith);
        tells = ap (λ c. verdict_of c.sign) root ∙ verdict_back (meant k 0 (m - 1));
      })

  pub exact : Exact k
  exact v =
      let list : List Claim = map (claim_no k) (range_with_len 0 (claim_count k)) in
      let is : Each list = λ q j low within.
      let b = index n m q j in
      get_or-map-range_with_len (claim_no k) 0 (claim_count k) b b _ (index_low n m q j low within) (omega arith) ∙ no_index q j low within in (
        (λ p. accepted_means k ok p.0 v p.1),
        (λ heard e. (list, complete list heard (length-map-range_with_len (claim_no k) 0 (claim_count k)) is ∙ ap Ok e)),
      )

  -- the next claim is made from those that are written
  pub going_more : (i : ℕ) (old new : List Claim) (c : Claim) → i < claim_count k → i < length new →
      c ≡ claim_next k (take i new) (n - length (take i new) / m) (length (take i new) % m) → Going k i old new → Going k (i + 1) old (set new i c)
  going_more i old new c low within is g =
      let before : (b : ℕ) → b < i → claim_at (take i new) b ≡ claim_no k b = λ b h. get_or-take i new b _ h ∙ g.done b h in
      let long : length (take i new) ≡ i = length-take-le i new (omega arith) in
      let next : c ≡ claim_no k i = is ∙ ap (λ b. claim_next k (take i new) (n - b / m) (b % m)) long ∙ claim_next_lem (take i new) i low before in
      record {
        done = below_more (λ b. claim_at (set new i c) b ≡ claim_no k b) i
            (λ b h. let ne : b ≢ i = omega arith in get_or-set_other new i b c _ ne ∙ g.done b h)
            (get_or-set_same new i c _ within ∙ next);
        rest = drop-set-lt (claim_count k) new i c low ∙ g.rest;
      }

  pub going_all : (i : ℕ) (old new : List Claim) → unheard k ≡ None → claim_count k ≤ i → claim_count k ≤ length new → Going k i old new → Written k old new
  going_all i old new heard up fits g =
      let is : Each new = λ q j low within. g.done (index n m q j) (omega (arith, index_low n m q j low within)) ∙ no_index q j low within in
      record {
        each = is;
        past = g.rest;
        accepted = complete (take (claim_count k) new) heard (length-take-le (claim_count k) new fits)
            (λ q j low within. get_or-take (claim_count k) new (index n m q j) _ (index_low n m q j low within) ∙ is q j low within);
      }
