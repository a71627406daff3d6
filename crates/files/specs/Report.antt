-- A report as text. Assumes nothing.
use Rattle.std.specs.Prelude.{ℕ, List, [], ◌∷◌, ◌++◌, codes, decimal}
use Rattle.std.specs.List.{flat_map}
use Rattle.claims.specs.declared.claim.Claim.{Claim}
use Rattle.claims.specs.declared.claim.Sign.{Sign}
use Rattle.claims.specs.declared.claim.Sign.TheVariants.{Holds, Fails}
use Rattle.rules.specs.Faults.{number_of, layer_of, layer_number, place_of}
use Rattle.verdicts.specs.declared.three_way.ThreeWay.{ThreeWay}
use Rattle.verdicts.specs.declared.three_way.ThreeWay.TheVariants.{Broken, Unclear, Kept}
use Rattle.files.specs.declared.answer.Answer.{Answer}
use Rattle.files.specs.declared.answer.Answer.TheVariants.{Verdict, Refused}

abbrev pub verdict_word : ThreeWay → List ℕ
verdict_word Kept = codes "kept"
verdict_word Unclear = codes "unclear"
verdict_word Broken = codes "broken"

-- a tab, and then a number
abbrev pub tabbed : ℕ → List ℕ
tabbed n = 9 ∷ decimal n

-- the line of an answer
abbrev pub report_of : Answer → List ℕ
report_of (Verdict v) = codes "verdict" ++ (9 ∷ (verdict_word v ++ 10 ∷ []))
report_of (Refused f line) = codes "fault" ++ (tabbed (number_of f) ++ (tabbed (layer_number (layer_of f)) ++ (tabbed (place_of f) ++ (tabbed line ++ 10 ∷ []))))

abbrev pub sign_number : Sign → ℕ
sign_number Holds = 1
sign_number Fails = 0

-- the line of a claim
abbrev pub claim_line : Claim → List ℕ
claim_line c =
    codes "claim" ++ (tabbed c.place ++ (tabbed c.node ++ (tabbed (sign_number c.sign) ++ (tabbed c.first ++ (tabbed c.second ++ 10 ∷ [])))))

abbrev pub claim_lines : List Claim → List ℕ
claim_lines = flat_map claim_line

-- THE REPORT: the answer's line, and a line for each claim
abbrev pub text_of : Answer → List Claim → List ℕ
text_of a cs = report_of a ++ claim_lines cs
