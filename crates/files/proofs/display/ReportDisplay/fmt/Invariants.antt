use Rattle.std.proofs.Common.{take}
use Rattle.std.specs.Fmt.{HasWritten, IsPlainFormatter}
use Rattle.files.specs.Report.{text_of}
use Rattle.files.proofs.display.ReportDisplay.fmt.Given as goal

abbrev pub invariant-loop-claim : goal.invariant-loop-claim
invariant-loop-claim g l =
    IsPlainFormatter l.fn.f → HasWritten g.W.Write.write_str_gives l.fn.f (text_of l.fn.self.answer (take l.claim-index l.claim-items)) l.f
