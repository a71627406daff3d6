-- A test of each of the grounds that suffice. Assumes nothing.
use Rattle.std.specs.Prelude.{◌≡◌, Bool, false, ◌||◌}
use Rattle.claims.specs.declared.grounds.Grounds.{Grounds}
use Rattle.claims.specs.declared.grounds.Ways.{Ways}
use Rattle.claims.specs.declared.grounds.Ways.TheVariants.{Never, By, Either}

-- what holds of each of the grounds
abbrev pub ToEach : (Grounds → Type 0) → Ways → Type 0
ToEach P Never = Unit {0}
ToEach P (By g) = P g
ToEach P (Either g h) = P g × P h

-- whether some pass, by what the test may answer of each
abbrev pub AnyOf : (Grounds → Bool → Type 0) → Ways → Bool → Type 0
AnyOf P Never r = r ≡ false
AnyOf P (By g) r = P g r
AnyOf P (Either g h) r = (a : Bool) × (b : Bool) × P g a × P h b × (r ≡ (a || b))
