use Rattle.std.proofs.Common.{rules}
use Rattle.polynomials.specs.Held.{no_bits}
use Rattle.polynomials.proofs.substitute.all_values.Goals as goal

pub returns : goal.returns
returns c i v l h = let (p, q, r) = c.map.ensures.items.at i (record { bits = no_bits }) (record { bits = no_bits }) l in search rules
