-- What a tree means on a record of events, at a place of it, over the operations of any scale. Assumes nothing.
-- A place is given by the rows from it to the end: none at the place past the last event. A row has an event's letters.
use Rattle.std.specs.Prelude.{ℕ, zero, suc, Bool, cond, List, [], ◌∷◌, length, take, drop, slice_index_or}
use Rattle.rules.specs.Tree.{Tree}
use Rattle.rules.specs.declared.node.Unary.{Unary}
use Rattle.rules.specs.declared.node.Binary.{Binary}
use Rattle.verdicts.specs.Scale.{Ops}

module _ {V : Type 0} (o : Ops V) where
  -- the meet of f 0, f 1, .., f (n - 1)
  abbrev pub each : ℕ → (ℕ → V) → V
  each zero f = o.top
  each (suc n) f = o.meet (f zero) (each n (λ i. f (suc i)))

  -- the join of f 0, f 1, .., f (n - 1)
  abbrev pub some : ℕ → (ℕ → V) → V
  some zero f = o.bottom
  some (suc n) f = o.join (f zero) (some n (λ i. f (suc i)))

  abbrev pub constant : Bool → V
  constant v = cond v o.top o.bottom

  -- letter l at the first event
  abbrev pub letter : ℕ → List (List V) → V
  letter l [] = o.bottom
  letter l (r ∷ s) = slice_index_or r l o.bottom

  -- a value one place on
  abbrev pub later : (List (List V) → V) → List (List V) → V
  later f [] = o.bottom
  later f (r ∷ s) = f s

  -- an operator over operands that have a value at each place
  abbrev pub unary : Unary → (List (List V) → V) → List (List V) → V
  unary Unary.Not x s = o.negate (x s)
  unary Unary.Always x s = each (length s) (λ i. x (drop i s))
  unary Unary.Eventually x s = some (length s) (λ i. x (drop i s))
  unary Unary.Next x s = later x s

  abbrev pub binary : Binary → (List (List V) → V) → (List (List V) → V) → List (List V) → V
  binary Binary.Until x y s = some (length s) (λ i. o.meet (y (drop i s)) (each i (λ j. x (drop j s))))
  binary Binary.And x y s = o.meet (x s) (y s)
  binary Binary.Xor x y s = o.join (o.meet (x s) (o.negate (y s))) (o.meet (o.negate (x s)) (y s))
  binary Binary.Or x y s = o.join (x s) (y s)
  binary Binary.Implies x y s = o.join (o.negate (x s)) (y s)
  binary Binary.Iff x y s = o.join (o.meet (x s) (y s)) (o.meet (o.negate (x s)) (o.negate (y s)))

  abbrev pub means : Tree ℕ → List (List V) → V
  means (Tree.leaf l) s = letter l s
  means (Tree.truth v) s = constant v
  means (Tree.before u x) s = unary u (means x) s
  means (Tree.between b x y) s = binary b (means x) (means y) s

-- the rows of a valuation: n of k letters
abbrev pub rows : {V : Type 0} → ℕ → ℕ → List V → List (List V)
rows zero k xs = []
rows (suc n) k xs = take k xs ∷ rows n k (drop k xs)
