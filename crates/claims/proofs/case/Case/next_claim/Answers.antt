use Rattle.std.proofs.Common.{length}
use Rattle.claims.specs.Written.{shown, Earlier, OfWays}
use Rattle.claims.specs.Posed.{posed}
use Rattle.claims.specs.declared.claim.Sign.TheVariants.{Holds}
use Rattle.claims.proofs.Early.{early_by, chosen_by}
use Rattle.claims.proofs.Right.{held}
use Rattle.claims.proofs.case.Case.next_claim.Goals as goal

pub shows_some-holds-requires : goal.shows_some-holds-requires
shows_some-holds-requires g c =
    let s = c.args.self.now in
    let spot = c.spot-spot.result in
    early_by (posed g.R.Reading.meaning s) (held g.R.Reading.meaning s).noded (length s.nodes.now) (length c.args.claims.now) spot.place spot.own Holds c.ways.result
    s.nodes_long c.spot-spot.ensures.place c.spot-spot.ensures.own c.ways.ensures c.requires

pub choose-grounds-requires : goal.choose-grounds-requires
choose-grounds-requires g c =
    let s = c.args.self.now in
    let spot = c.spot-spot.result in
    early_by (posed g.R.Reading.meaning s) (held g.R.Reading.meaning s).noded (length s.nodes.now) (length c.args.claims.now) spot.place spot.own c.from-sign.result c.ways-2.result
    s.nodes_long c.spot-spot.ensures.place c.spot-spot.ensures.own c.ways-2.ensures c.requires

pub claim_on-requires : goal.claim_on-requires
claim_on-requires g c =
    let s = c.args.self.now in
    let n = length s.trace.now in
    let m = length s.nodes.now in
    let i = length c.args.claims.now in
    let spot = c.spot-spot.result in
    let early : OfWays (Earlier n m i) c.ways-2.result = early_by (posed g.R.Reading.meaning s) (held g.R.Reading.meaning s).noded m i spot.place spot.own c.from-sign.result c.ways-2.result
    s.nodes_long c.spot-spot.ensures.place c.spot-spot.ensures.own c.ways-2.ensures c.requires in
    chosen_by (Earlier n m i) (shown n m c.args.claims.now) c.ways-2.result c.choose-grounds.result c.choose-grounds.ensures early
