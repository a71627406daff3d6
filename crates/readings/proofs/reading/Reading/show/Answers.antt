use Rattle.std.proofs.Common.{take, ap₂, ◌∙◌, rules}
use lib.Bits.{bit_and}
use Rattle.readings.specs.Meaning.{mark_of, on_set, doubt_set}
use Rattle.readings.proofs.Bits.{sets_apart}
use Rattle.readings.proofs.reading.Reading.show.Goals as goal

pub returns : goal.returns
unfolding on_set doubt_set
returns g c =
    let m = g.Self.Reading.meaning c.args.self.now in
    let sets = c.sets_of.ensures (mark_of m c.args.code) (λ n k h q. search rules) in
    record { on = sets.0; doubt = sets.1; apart = ap₂ bit_and sets.0 sets.1 ∙ sets_apart (mark_of m c.args.code) (take 8 c.args.names.now) }
