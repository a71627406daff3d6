-- The rows of a valuation that was laid for a trace are those of its events. Assumes nothing.
use Rattle.std.proofs.Common.{◌≡◌, ℕ, List, [], ◌∷◌, ◌++◌, map, length, take, drop, sym, refl, ap, ◌∙◌, ap₂}
use lib.Seq.{take-append_seam, drop-append_seam}
use Rattle.std.proofs.lemmas.List.{append_assoc, append-nil, length-map, take-append-drop}
use Rattle.readings.specs.Meaning.{Meaning, mark_of}
use Rattle.verdicts.specs.Scale.{Ops}
use Rattle.verdicts.specs.Meaning.{rows}
use Rattle.verdicts.specs.Valuation.{worth_of, row_of, laid, Laid}

module _ {V : Type 0} (o : Ops V) (d : V) (m : Meaning) (ns : List ℕ) where
  -- whatever lies past the values
  rows_front : (cs : List ℕ) (past : List V) → rows (length cs) (length ns) (laid o d m ns cs ++ past) ≡ map (row_of o d m ns) cs
  rows_front [] past = refl
  rows_front (c ∷ cs) past =
      let row = row_of o d m ns c in
      let rest = laid o d m ns cs ++ past in
      let long : length ns ≡ length row = sym (length-map ns (λ n. worth_of o d (mark_of m c n))) in
      ap (rows (length (c ∷ cs)) (length ns)) (append_assoc row (laid o d m ns cs) past)
      ∙ ap₂ ◌∷◌ (ap (λ k. take k (row ++ rest)) long ∙ take-append_seam row rest)
      (ap (λ k. rows (length cs) (length ns) (drop k (row ++ rest))) long ∙ ap (rows (length cs) (length ns)) (drop-append_seam row rest) ∙ rows_front cs past)

  pub rows_laid : (cs : List ℕ) → rows (length cs) (length ns) (laid o d m ns cs) ≡ map (row_of o d m ns) cs
  rows_laid cs = ap (rows (length cs) (length ns)) (sym (append-nil (laid o d m ns cs))) ∙ rows_front cs []

  -- the same where the values were written into longer memory
  pub rows_written : (cs : List ℕ) (old new : List V) → Laid (laid o d m ns cs) old new → rows (length cs) (length ns) new ≡ rows (length cs) (length ns) (laid o d m ns cs)
  rows_written cs old new is =
      let values = laid o d m ns cs in
      let past = drop (length values) new in
      let parts : new ≡ values ++ past = sym (take-append-drop (length values) new) ∙ ap (λ xs. xs ++ past) is.front in
      ap (rows (length cs) (length ns)) parts ∙ rows_front cs past ∙ sym (rows_laid cs)
