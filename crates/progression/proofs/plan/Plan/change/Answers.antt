use Rattle.std.proofs.Common.{◌≡◌, get_or, rules}
use Rattle.polynomials.specs.Held.{no_bits}
use Rattle.progression.proofs.Made.{by_both}
use Rattle.progression.proofs.Tabled.{change_within, change_past}
use Rattle.progression.proofs.plan.Plan.change.Goals as goal

pub returns : goal.returns
returns c =
    let r = c.args.self.now.rule in
    by_both c.place.result _ _ _ _ _ c.place.ensures c.map_or.ensures
    (λ far e. rw e (change_past r c.args.i far c.args.letters c.empty.result c.empty.ensures))
    (λ j q e.
    let is : c.map_or.result ≡ get_or c.args.tables.now j (record { bits = no_bits }) = search rules in
    rw is (change_within r c.args.i j q.0 q.1 c.args.letters c.args.tables.now c.requires.tabled))
