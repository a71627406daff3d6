-- The letters of an event, as a row of verdicts and as a set, and the sets that events may show. Assumes nothing.
use Rattle.std.proofs.Common.{◌≡◌, ℕ, ◌+◌, ◌^◌, ◌<◌, ◌≤◌, false, List, map, length, get_or, take, sym, refl, ap, ◌∙◌, ⊎_elim, arith, pow_mono}
use Rattle.std.proofs.lemmas.List.{get_or_past, get_or-map, length-map, length-take}
use Rattle.std.proofs.lemmas.Bool.{cases_lt}
use Rattle.readings.specs.Meaning.{Meaning, mark_of, is_on, on_set}
use Rattle.readings.specs.declared.mark.Mark.{Mark}
use Rattle.readings.specs.declared.mark.Mark.TheVariants.{Off, On, Doubt}
use Rattle.readings.proofs.Bits.{worth_place}
use Rattle.readings.proofs.Worths.{worth_below}
use Rattle.verdicts.specs.Meaning.{constant}
use Rattle.verdicts.specs.Valuation.{worth_of, row_of}
use Rattle.verdicts.specs.YesNo.{yes_no}
use Rattle.verdicts.specs.declared.scale.YesNo.{YesNo}
use Rattle.verdicts.specs.declared.scale.YesNo.TheVariants.{Broken}
use Rattle.polynomials.specs.Sets.{bit_at}
use Rattle.polynomials.proofs.Digits.{bit_small}

on_worth : (k : Mark) → constant yes_no (is_on k) ≡ worth_of yes_no Broken k
on_worth Off = refl
on_worth On = refl
on_worth Doubt = refl

module _ (m : Meaning) (ns : List ℕ) (few : length ns ≤ 8) where
  on_lt : (c : ℕ) → on_set m c ns < 2 ^ length ns
  unfolding on_set
  on_lt c =
      let below = worth_below (λ n. is_on (mark_of m c n)) 0 (take 8 ns) in
      let up : 2 ^ (0 + length (take 8 ns)) ≤ 2 ^ length ns = pow_mono (omega (arith, length-take 8 ns)) in
      omega (arith, below, up)

  pub set_lt : (c : ℕ) → on_set m c ns < 256
  set_lt c = let up : 2 ^ length ns ≤ 2 ^ 8 = pow_mono few in omega (arith, on_lt c, up)

  bit_on : (c l : ℕ) → l < length ns → bit_at l (on_set m c ns) ≡ is_on (mark_of m c (get_or ns l 0))
  unfolding on_set bit_at
  bit_on c l h = worth_place (λ n. is_on (mark_of m c n)) ns l (omega arith) h

  bit_past : (c l : ℕ) → length ns ≤ l → bit_at l (on_set m c ns) ≡ false
  bit_past c l h = let up : 2 ^ length ns ≤ 2 ^ l = pow_mono h in bit_small l (on_set m c ns) (omega (arith, on_lt c, up))

  -- letter l of an event's row is on where it is in the set that the event shows
  pub row_set : (c l : ℕ) → get_or (row_of yes_no Broken m ns c) l YesNo.Broken ≡ constant yes_no (bit_at l (on_set m c ns))
  row_set c l =
      let f : ℕ → YesNo = λ n. worth_of yes_no Broken (mark_of m c n) in
      ⊎_elim
      (λ (h : l < length ns). get_or-map f ns l 0 Broken h ∙ sym (on_worth (mark_of m c (get_or ns l 0))) ∙ ap (constant yes_no) (sym (bit_on c l h)))
      (λ (h : length ns ≤ l).
      let past : length (map f ns) ≤ l = omega (arith, length-map ns f) in
      get_or_past (map f ns) l Broken past ∙ ap (constant yes_no) (sym (bit_past c l h)))
      (cases_lt l (length ns))
