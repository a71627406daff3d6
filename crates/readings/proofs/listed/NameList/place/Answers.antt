use Rattle.std.proofs.Common.{◌≡◌, true, false, take, rules, tests}
use Rattle.std.proofs.lemmas.Iterator.{YieldsList-from_slice, IsFirst-from_position}
use Rattle.rules.specs.Names.{spelled, same_name}
use Rattle.readings.proofs.Found.{first_place}
use Rattle.readings.proofs.listed.NameList.place.Goals as goal

pub returns : goal.returns
returns g c =
    let l = c.args.self.now in
    let n = c.args.name.now in
    first_place l n c.position.result (IsFirst-from_position _ _ c.position.result (λ x. same_name (spelled x) n ≡ true) (λ x. same_name (spelled x) n ≡ false) c.position.ensures.ran (YieldsList-from_slice (take l.count l.names) c.iter-names.ensures.rest) (λ x q k. search (rules, tests)) (λ x q k. search (rules, tests)))
