use Rattle.std.proofs.Common.{arith}
use Rattle.reachable.proofs.Search.{few, progress_more}
use Rattle.reachable.proofs.reachable.Goals as goal

pub loop-v-smaller : goal.loop-v-smaller
loop-v-smaller g c =
    let f = few c.loop-v.found in
    let h = c.in-Some.ensures in
    let e = c.expand.ensures.grown.same_done in
    omega arith

pub loop-v-preserved : goal.loop-v-preserved
loop-v-preserved g c =
    progress_more (g.M.Machine.moves c.args.m.now) c.loop-v.found c.loop-v.invariant c.in-Some.v c.next.new.self c.expand.new.self
    c.in-Some.ensures c.expand.ensures
