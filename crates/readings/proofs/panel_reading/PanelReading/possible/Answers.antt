use Rattle.std.proofs.Common.{◌≤◌, length, sym, ◌∙◌, arith}
use Rattle.std.proofs.lemmas.Bool.{eqb-true, eq-eqb}
use Rattle.readings.specs.Listed.{spellings}
use Rattle.readings.specs.Panel.{panel_over}
use Rattle.readings.proofs.Candidate.{shown, forced}
use Rattle.readings.specs.Finding.{spellings_length}
use Rattle.readings.proofs.panel_reading.PanelReading.possible.Goals as goal

pub returns : goal.returns
returns c =
    let ns = c.args.names.now in
    let set = c.args.set in
    let all = spellings c.args.self.now.list in
    let few : length all ≤ 8 = omega (arith, spellings_length c.args.self.now.list, c.args.self.now.list.few) in
    let is = c.spread.ensures in
    (λ t. shown ns set all few (sym is ∙ eqb-true _ set t), λ p. eq-eqb _ set (is ∙ forced ns set (panel_over all) p.0 p.2))
