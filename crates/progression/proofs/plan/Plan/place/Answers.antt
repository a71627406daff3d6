use Rattle.progression.proofs.Tabled.{place_is}
use Rattle.progression.proofs.plan.Plan.place.Goals as goal

pub returns : goal.returns
returns c = rw c.then_some.ensures (place_is c.args.self.now c.args.i c.requires)
