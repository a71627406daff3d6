use Rattle.std.proofs.Common.{arith}
use Rattle.rules.proofs.ClassTable.{entry_at}
use Rattle.rules.proofs.class.class_code.Goals as goal

pub returns : goal.returns
returns c = rw c.from.ensures (entry_at 256 c.args.b (omega arith))
