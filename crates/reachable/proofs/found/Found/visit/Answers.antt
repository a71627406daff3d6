use Rattle.std.proofs.Common.{sym, ◌∙◌, arith}
use Rattle.reachable.proofs.Visits.{place}
use Rattle.reachable.proofs.found.Found.visit.Goals as goal

pub bounds-self-self : goal.bounds-self-self
bounds-self-self c =
    place c.args.self.now.seen c.add.new.self c.args.v c.add.ensures c.args.self.now.order c.args.self.now.count c.ranges.v.fits
    (sym c.has.ensures ∙ c.if-not-has.true) c.args.self.now.listed

pub overflow_add-self : goal.overflow_add-self
overflow_add-self c =
    let p = place c.args.self.now.seen c.add.new.self c.args.v c.add.ensures c.args.self.now.order c.args.self.now.count c.ranges.v.fits
    (sym c.has.ensures ∙ c.if-not-has.true) c.args.self.now.listed in
    omega arith
