use Rattle.std.proofs.Common.{arith}
use Rattle.reachable.proofs.Search.{few}
use Rattle.reachable.proofs.found.Found.next.Goals as goal

pub bounds-self-self : goal.bounds-self-self
bounds-self-self c = let f = few c.args.self.now in let l = c.args.self.now.in_list in omega arith
