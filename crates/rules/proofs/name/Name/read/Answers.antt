use Rattle.std.proofs.Common.{arith}
use Rattle.std.proofs.iter.Serving.{serving}
use Rattle.rules.proofs.NameBytes.{short_name}
use Rattle.rules.proofs.name.Name.read.Goals as goal

pub then-requires : goal.then-requires
then-requires c = grind (serving, arith, short_name)
