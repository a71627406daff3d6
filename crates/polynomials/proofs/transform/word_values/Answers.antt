use Rattle.polynomials.proofs.Stages.{masks_are, stage_next, stage_none, stages_end}
use Rattle.polynomials.proofs.transform.word_values.Goals as goal

pub returns : goal.returns
returns c =
    let after1 = stage_next masks_are.0 c.spread-x1.ensures (stage_none c.args.x) in
    let after2 = stage_next masks_are.1 c.spread-x2.ensures after1 in
    let after3 = stage_next masks_are.2 c.spread-x3.ensures after2 in
    let after4 = stage_next masks_are.3 c.spread-x4.ensures after3 in
    let after5 = stage_next masks_are.4 c.spread-x5.ensures after4 in
    stages_end (stage_next masks_are.5 c.spread.ensures after5)
