use Rattle.std.proofs.Common.{IsUtf8, sym, ◌∙◌, subst, arith}
use Rattle.std.specs.Str.Parse.{ParsesUnsigned}
use Rattle.std.proofs.lemmas.Bool.{both_ways}
use Rattle.std.proofs.lemmas.Fmt.{IsAscii-decimal}
use Rattle.std.proofs.lemmas.Str.{IsUtf8-from_ascii}
use Rattle.files.specs.Event.{ReadsByte, spoiled}
use Rattle.files.proofs.Spelling.{unspoiled, plain_byte, taken, dropped}
use Rattle.files.proofs.decimal.byte.Goals as goal

pub returns-then-is_spoiled : goal.returns-then-is_spoiled
returns-then-is_spoiled c = λ n small e. both_ways (spoiled c.args.text.now) (unspoiled c.args.text.now n small e) (sym c.if-is_spoiled.ensures)

pub returns-in_err-ok : goal.returns-in_err-ok
returns-in_err-ok c =
    let no = dropped _ _ c.from_utf8.result c.from_utf8.ensures.cases (sym c.ok.ensures.value ∙ c.in_err-ok.was) in
    subst (ReadsByte c.args.text.now) (sym c.from_residual.ensures) (λ n small e. no.1.0 (subst IsUtf8 (sym e) (IsUtf8-from_ascii _ (IsAscii-decimal n (omega arith)))))

pub returns : goal.returns
returns c =
    let same = taken _ _ c.from_utf8.result c.in_ok-ok.field-0 c.from_utf8.ensures.cases (sym c.ok.ensures.value ∙ c.in_ok-ok.was) in
    let reads = subst (λ t. ParsesUnsigned 8 10 t c.parse.result) same.0 c.parse.ensures.value.0 in
    subst (ReadsByte c.args.text.now) (sym c.ok-2.ensures.value) (plain_byte c.args.text.now c.parse.result (sym c.if-is_spoiled.ensures) reads)
