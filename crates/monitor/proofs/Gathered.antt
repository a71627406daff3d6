-- A set that is gathered number by number. Assumes nothing.
use Rattle.std.proofs.Common.{◌≡◌, ℕ, ◌<◌, ◌≤◌, Bool, false, Decides}

-- of the numbers below n the set has those that P holds of, and it has none above
abbrev pub Gathered : (ℕ → Type 0) → ℕ → (ℕ → Bool) → Type 0
Gathered P n f = ((k : ℕ) → k < n → Decides (f k) (P k)) × ((k : ℕ) → n ≤ k → f k ≡ false)
