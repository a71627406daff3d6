use mathlib.Core.Path.{refl}
use Rattle.examples.proofs.Shown.{all_shown}
use Rattle.examples.proofs.count.Goals as goal

pub returns : goal.returns
returns c = record { count = refl; shown = all_shown }
