-- The scale of two verdicts is a distributive lattice with ends. Assumes nothing.
use Rattle.std.proofs.Common.{rules}
use Rattle.verdicts.specs.Scale.{Laws}
use Rattle.verdicts.specs.YesNo.{yes_no}

pub yes_no_laws : Laws yes_no
yes_no_laws = search rules
