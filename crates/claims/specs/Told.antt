-- What the claims that are written so far tell. Assumes nothing.
use Rattle.std.specs.Prelude.{ℕ, length}
use Rattle.verdicts.specs.declared.scale.YesNo.{YesNo}
use Rattle.claims.specs.Written.{shown, Earlier}
use Rattle.claims.specs.declared.grounds.Fact.{Fact}
use Rattle.claims.specs.declared.so_far.SoFar.{SoFar}

-- the values of the nodes at the places that have their claims
abbrev pub told : SoFar → ℕ → ℕ → YesNo
told s = shown s.n s.m s.claims.now

-- a fact whose claim is there
abbrev pub Known : SoFar → Fact → Type 0
Known s x = Earlier s.n s.m (length s.claims.now) x
