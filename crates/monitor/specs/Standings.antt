-- What a standing says of the events. Assumes nothing.
use Rattle.std.specs.Prelude.{◌≡◌, ℕ, ◌↔◌, List, ◌++◌, length, Some, None, Ok, Err, Option, Result}
use Rattle.rules.specs.declared.fault.Fault.{Fault}
use Rattle.readings.specs.Meaning.{Meaning}
use Rattle.verdicts.specs.Case.{Subject, on}
use Rattle.verdicts.specs.declared.scale.YesNo.{YesNo}
use Rattle.verdicts.specs.declared.scale.YesNo.TheVariants.{Broken, Kept}
use Rattle.polynomials.specs.declared.residual.Residual.{Residual}
use Rattle.progression.specs.Tables.{StandsFor}
use Rattle.monitor.specs.Monitored.{watched, residual_of, Undoubted, Each, subject, Decided}
use Rattle.monitor.specs.declared.setup.Setup.{Setup}
use Rattle.monitor.specs.declared.standing.Finality.{Finality}
use Rattle.monitor.specs.declared.standing.Standing.{Standing}

-- it says this verdict, for good
abbrev pub Settles : Standing → YesNo → Type 0
Settles s v = (s.verdict ≡ v) × (s.finality ≡ Finality.ForGood)

-- whatever events come after these, in whatever number, the verdict on all of them is v
abbrev pub Whatever : Subject → List ℕ → YesNo → Type 0
Whatever b cs v = (rest : List ℕ) → Each (Undoubted b) rest → watched (on b (cs ++ rest)) ≡ v

-- A STANDING AFTER THESE EVENTS: the verdict on them, how many they are, the residual, and for good exactly where nothing that
-- may come changes the verdict
pub record Tells (b : Subject) (cs : List ℕ) (s : Standing) : Type 0 where
  pub verdict : s.verdict ≡ watched (on b cs)
  pub count : s.count ≡ length cs
  pub residual : StandsFor s.residual (residual_of b cs)
  pub kept : Settles s Kept ↔ Whatever b cs Kept
  pub broken : Settles s Broken ↔ Whatever b cs Broken

-- A STANDING AT A POINT, whatever the reading means: it tells of all events that come to n and leave this residual
abbrev pub TellsAt : Setup → ℕ → Residual → Standing → Type 0
TellsAt s n x t = (m : Meaning) (cs : List ℕ) → Decided (subject m s) s → StandsFor x (residual_of (subject m s) cs) → n ≡ length cs → Tells (subject m s) cs t

-- the answer of a call that may be refused
abbrev pub Answers : Option Fault → (Standing → Type 0) → Result Standing Fault → Type 0
Answers (Some f) P r = r ≡ Err f
Answers None P r = (s : Standing) × (r ≡ Ok s) × P s
