-- Which histories a monitor stands for, and what a call makes of them. Assumes nothing.
use Rattle.std.specs.Prelude.{◌≡◌, ℕ, ◌≤◌, List, [], ◌∷◌, length, take, Err, Result, slice_index_or}
use Rattle.rules.specs.declared.fault.Fault.{Fault}
use Rattle.readings.specs.Meaning.{Meaning}
use Rattle.verdicts.specs.Case.{Subject}
use Rattle.progression.specs.Tables.{StandsFor}
use Rattle.monitor.specs.Monitored.{residual_of, Decided, subject}
use Rattle.monitor.specs.History.{History, refusal, after, told_of}
use Rattle.monitor.specs.Standings.{Tells, Answers}
use Rattle.monitor.specs.declared.call.Call.{Call}
use Rattle.monitor.specs.declared.inner.Inner.{Inner}
use Rattle.monitor.specs.declared.monitor.Monitor.{Monitor}
use Rattle.monitor.specs.declared.point.Point.{Point}
use Rattle.monitor.specs.declared.standing.Standing.{Standing}

-- each mark's point has its count of events and their residual, and a mark is no later than a newer one
abbrev pub MarksStand : Subject → List ℕ → List Point → ℕ → List ℕ → Type 0
MarksStand b cs table top [] = Unit {0}
MarksStand b cs table top (n ∷ ns) =
    (n ≤ top)
    × ((d : Point) → (slice_index_or table (length ns) d).count ≡ n)
    × ((d : Point) → StandsFor (slice_index_or table (length ns) d).residual (residual_of b (take n cs)))
    × MarksStand b cs table n ns

-- THE MONITOR STANDS FOR A HISTORY
pub record Stands (b : Subject) (h : History) (i : Inner) : Type 0 where
  pub possible : Decided b i.setup
  pub count : i.now.count ≡ length h.codes
  pub residual : StandsFor i.now.residual (residual_of b h.codes)
  pub set : i.marks.set ≡ length h.marks
  pub marks : MarksStand b h.codes i.marks.table (length h.codes) h.marks

-- what a standing says of it: for every history that it stands for, it tells of the events
abbrev pub Says : Subject → Inner → Standing → Type 0
Says b i s = (h : History) → Stands b h i → Tells b h.codes s

-- WHAT A CALL DOES, for every history that the monitor stands for: it stands for the history after the call, and the answer is that
-- history's. A refusal leaves everything as it was
pub record Serves (b : Subject) (call : Call) (old new : Inner) (r : Result Standing Fault) : Type 0 where
  pub setup : new.setup ≡ old.setup
  pub stands : (h : History) → Stands b h old → Stands b (after b h call) new
  pub answers : (h : History) → Stands b h old → Answers (refusal b h call) (Tells b (told_of h call)) r
  pub kept : (f : Fault) → r ≡ Err f → new ≡ old

-- the bound rule that a monitor watches, where its reading means what `meaning` gives
abbrev pub watches : {R : Type 0} → (R → Meaning) → Monitor R → Subject
watches meaning m = subject (meaning m.reading) m.inner.setup

-- what a call does to the whole monitor: its reading stays
pub record ServesCall {R : Type 0} (meaning : R → Meaning) (call : Call) (old new : Monitor R) (r : Result Standing Fault) : Type 0 where
  pub reading : new.reading ≡ old.reading
  pub serves : Serves (watches meaning old) call old.inner new.inner r
