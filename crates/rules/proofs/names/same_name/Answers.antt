use Rattle.std.proofs.lemmas.Bool.Decides.{Decides-eqb, same_from_decides}
use Rattle.std.proofs.lemmas.Slice.Eq.{bytes_eq-Decides, slice_eq-Decides}
use Rattle.rules.specs.Names.{same_name}
use Rattle.rules.proofs.names.same_name.Goals as goal

pub returns : goal.returns
unfolding same_name
returns c =
    same_from_decides _ _ (slice_eq-Decides Decides-eqb c.args.a.now c.args.b.now _ c.eq.ensures) (bytes_eq-Decides c.args.a.now c.args.b.now)
