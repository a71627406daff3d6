use Rattle.std.proofs.Common.{length}
use Rattle.progression.proofs.Listed.{Listing, chosen}
use Rattle.progression.proofs.plan.Plan.new.Given as goal

abbrev pub invariant-loop-j : goal.invariant-loop-j
invariant-loop-j l = Listing (chosen l.nodes (length l.nodes)) l.j l.count l.numbers l.places
