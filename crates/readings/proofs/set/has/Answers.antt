use Rattle.std.proofs.Common.{sym, ◌∙◌}
use Rattle.std.proofs.lemmas.Bool.{le-ltb}
use Rattle.readings.proofs.Bits.{no_place}
use Rattle.readings.proofs.set.has.Goals as goal

pub returns-else-i-lt-PLACES : goal.returns-else-i-lt-PLACES
returns-else-i-lt-PLACES c = le-ltb c.args.i 8 c.if-i-lt-PLACES.false ∙ sym (no_place c.args.set c.args.i c.ranges.set.fits c.if-i-lt-PLACES.false)
