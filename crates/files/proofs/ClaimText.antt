-- The text of a report, one claim at a time. Assumes nothing.
use Rattle.std.proofs.Common.{◌≡◌, ℕ, ◌+◌, ◌<◌, List, ◌++◌, length, get_or, take, sym, ap, ◌∙◌}
use Rattle.std.proofs.lemmas.List.{flat_map_more, take_more}
use Rattle.claims.specs.declared.claim.Claim.{Claim}
use Rattle.files.specs.declared.answer.Answer.{Answer}
use Rattle.files.specs.Report.{claim_line, report_of, text_of}

pub text_more : (a : Answer) (cs : List Claim) (i : ℕ) (d : Claim) → i < length cs → text_of a (take i cs) ++ claim_line (get_or cs i d) ≡ text_of a (take (i + 1) cs)
text_more a cs i d low = flat_map_more claim_line (report_of a) (take i cs) (get_or cs i d) ∙ ap (text_of a) (sym (take_more cs i d low))
