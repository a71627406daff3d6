-- What a search has found, and how that grows. Assumes nothing.
use Rattle.std.specs.Prelude.{◌≡◌, ℕ, ◌+◌, ◌<◌, ◌≤◌, true, ◌⊎◌, slice_index}
use Rattle.polynomials.specs.Held.{vectors}
use Rattle.reachable.specs.Reach.{Moves, May}
use Rattle.reachable.specs.declared.found.Found.{Found}

abbrev pub In : Found → ℕ → Type 0
In w v = vectors w.seen v ≡ true

-- nothing was taken out or handed out, and the list goes on from where it was
pub record Grown (w x : Found) : Type 0 where
  pub kept : (v : ℕ) → In w v → In x v
  pub more : w.count ≤ x.count
  pub front : (k : ℕ) → k < w.count → slice_index x.order k ≡ slice_index w.order k
  pub same_done : x.done ≡ w.done

-- all of w was handed out before, and x has the same vectors
pub record AllDone (w x : Found) : Type 0 where
  pub all : w.count ≤ w.done
  pub same_seen : x.seen ≡ w.seen

-- v, the next of w, was handed out
pub record HandedOut (v : ℕ) (w x : Found) : Type 0 where
  pub left : w.done < w.count
  pub first : v ≡ slice_index w.order w.done
  pub one_more : x.done ≡ w.done + 1
  pub same_seen : x.seen ≡ w.seen
  pub same_order : x.order ≡ w.order
  pub same_count : x.count ≡ w.count

-- u follows v by an event whose letters have a number below n
abbrev pub Follows : Moves → ℕ → ℕ → ℕ → Type 0
Follows m n v u = (a : ℕ) × (a < n) × May m a × (m.step a v ≡ u)

-- x is w with all that follows v by letters with numbers below n
pub record Expanded (m : Moves) (n v : ℕ) (w x : Found) : Type 0 where
  pub grown : Grown w x
  pub next : (a : ℕ) → a < n → May m a → In x (m.step a v)
  pub only : (u : ℕ) → In x u → In w u ⊎ Follows m n v u
