use Rattle.std.proofs.Common.{◌^◌, ◌≤◌, sym, ◌∙◌, arith, pow_mono}
use Rattle.std.proofs.lemmas.Bool.{le-ltb}
use Rattle.polynomials.proofs.Digits.{bit_small}
use Rattle.polynomials.proofs.FourWords.{tested}
use Rattle.progression.proofs.operators.is_on.Goals as goal

pub returns-then-l-lt-MOST_LETTERS : goal.returns-then-l-lt-MOST_LETTERS
returns-then-l-lt-MOST_LETTERS c = tested c.args.letters c.args.l

pub returns-else-l-lt-MOST_LETTERS : goal.returns-else-l-lt-MOST_LETTERS
returns-else-l-lt-MOST_LETTERS c =
    let up : 2 ^ 8 ≤ 2 ^ c.args.l = pow_mono c.if-l-lt-MOST_LETTERS.false in
    le-ltb c.args.l 8 c.if-l-lt-MOST_LETTERS.false ∙ sym (bit_small c.args.l c.args.letters (omega arith))
