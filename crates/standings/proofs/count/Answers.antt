use mathlib.Core.Path.{refl}
use Rattle.standings.proofs.Shown.{all_shown}
use Rattle.standings.proofs.Read.{read_tabled}
use Rattle.standings.proofs.Standing.{told}
use Rattle.standings.proofs.count.Goals as goal

pub returns : goal.returns
returns c = record { count = refl; shown = all_shown; read = read_tabled; told = told }
