-- What a standing tells: the verdict, and whether it is for good. Assumes nothing.
use Rattle.std.proofs.Common.{◌≡◌, ℕ, ◌<◌, ◌≤◌, Bool, true, false, cond, leb, ◌↔◌, List, [], ◌∷◌, ◌++◌, map, length, Decides, sym, refl, ap, ◌∙◌, subst, ap₂, arith}
use Rattle.std.proofs.lemmas.List.{append-nil, length-take-le}
use Rattle.rules.specs.Rules.{letter_count, tree_of_rule}
use Rattle.readings.specs.Meaning.{Meaning, on_set}
use Rattle.verdicts.specs.Case.{Subject, on}
use Rattle.verdicts.specs.Meaning.{constant, means, rows}
use Rattle.verdicts.specs.Valuation.{row_of, laid}
use Rattle.verdicts.specs.YesNo.{yes_no}
use Rattle.verdicts.specs.declared.scale.YesNo.{YesNo}
use Rattle.verdicts.specs.declared.scale.YesNo.TheVariants.{Broken}
use Rattle.verdicts.proofs.Traced.{rows_laid}
use Rattle.polynomials.specs.Held.{terms, vectors}
use Rattle.polynomials.specs.Polynomial.{value}
use Rattle.polynomials.specs.declared.residual.Residual.{Residual}
use Rattle.polynomials.specs.declared.vectors.VectorSet.{VectorSet}
use Rattle.polynomials.proofs.Values.{in_cong}
use Rattle.reachable.specs.Reach as reach
use Rattle.reachable.specs.Reach.{Moves, MayAll, ForGood}
use Rattle.progression.specs.Obligations.{obligations}
use Rattle.progression.specs.Progress.{is_kept, moves_of}
use Rattle.progression.specs.Tables.{StandsFor}
use Rattle.progression.proofs.Exact.{kept_said, said_kept, rest_value, vec_lt}
use Rattle.monitor.specs.Monitored.{subject, watched, residual_of, Undoubted, Each, Decided}
use Rattle.monitor.specs.Standings.{Settles, Whatever, Tells}
use Rattle.monitor.specs.declared.setup.Setup.{Setup}
use Rattle.monitor.specs.declared.standing.Finality.{Finality}
use Rattle.monitor.specs.declared.standing.Standing.{Standing}
use Rattle.monitor.proofs.Letters.{set_lt, row_set}

good_true : (x : Bool) → cond x Finality.ForGood Finality.SoFar ≡ Finality.ForGood → x ≡ true
good_true true e = refl
good_true false e = cc

module _ (m : Meaning) (s : Setup) where
  abbrev b : Subject
  b = subject m s

  pub numbers_long : length b.numbers ≡ letter_count s.plan.rule
  numbers_long = length-take-le (letter_count s.plan.rule) s.names (omega (arith, s.named, s.plan.rule.known))

  few : length b.numbers ≤ 8
  few = omega (arith, numbers_long, s.plan.rule.known)

  abbrev row : ℕ → List YesNo
  row = row_of yes_no Broken m b.numbers

  abbrev set : ℕ → ℕ
  set c = on_set m c b.numbers

  abbrev moves : Moves
  moves = moves_of s.plan.rule (vectors s.possible)

  -- the record that a valuation gives has the rows of the events
  watched_rows : (cs : List ℕ) → watched (on b cs) ≡ cond (leb (obligations s.plan.rule) 8) (means yes_no (tree_of_rule s.plan.rule) (map row cs)) Broken
  watched_rows cs =
      let values : List YesNo = laid yes_no Broken m b.numbers cs in
      let same : rows (length cs) (letter_count s.plan.rule) values ≡ map row cs =
      ap (λ (k : ℕ). rows (length cs) k values) (sym numbers_long) ∙ rows_laid yes_no Broken m b.numbers cs in
      ap (λ (rs : List (List YesNo)). cond (leb (obligations s.plan.rule) 8) (means yes_no (tree_of_rule s.plan.rule) rs) Broken) same

  module _ (decided : Decided b s) where
    -- events that may come show sets that may come, and every list of such sets is shown by some events that may come
    may_come : (rest : List ℕ) → Each (Undoubted b) rest → MayAll moves (map set rest)
    may_come [] each = tt
    may_come (c ∷ rest) each = ((set_lt m b.numbers few c, (decided (set c) (set_lt m b.numbers few c)).1 (c, each.0.0, refl, each.0.1)), may_come rest each.1)

    shown : (es : List ℕ) → MayAll moves es → (rest : List ℕ) × Each (Undoubted b) rest × (map set rest ≡ es)
    shown [] may = ([], tt, refl)
    shown (a ∷ es) may =
        let (c, low, is, clear) = (decided a may.0.0).0 may.0.1 in
        let (rest, each, same) = shown es may.1 in
        (c ∷ rest, ((low, clear), each), ap₂ ◌∷◌ is same)

    module _ (x : Residual) (cs : List ℕ) (stands : StandsFor x (residual_of b cs)) (table : VectorSet) (tabled : (v : ℕ) → v < 256 → vectors table v ≡ value (terms x) v) where
      -- the truth table at the vector of a rest has the verdict on all events
      at_rest : (rest : List ℕ) → vectors table (reach.vec moves (map set rest)) ≡ is_kept (watched (on b (cs ++ rest)))
      at_rest rest =
          let v = reach.vec moves (map set rest) in
          tabled v (vec_lt s.plan.rule (vectors s.possible) (map set rest))
          ∙ in_cong 8 (terms x) (residual_of b cs) v stands
          ∙ rest_value s.plan.rule row set (row_set m b.numbers few) (vectors s.possible) cs rest
          ∙ ap is_kept (sym (watched_rows (cs ++ rest)))

      to_whatever : (y : Bool) → ForGood moves (vectors table) y → Whatever b cs (constant yes_no y)
      to_whatever y good rest each =
          sym (said_kept (watched (on b (cs ++ rest)))) ∙ ap (constant yes_no) (sym (at_rest rest) ∙ good (map set rest) (may_come rest each))

      from_whatever : (y : Bool) → Whatever b cs (constant yes_no y) → ForGood moves (vectors table) y
      from_whatever y all es may =
          let (rest, each, same) = shown es may in
          ap (λ (u : List ℕ). vectors table (reach.vec moves u)) (sym same) ∙ at_rest rest ∙ ap is_kept (all rest each) ∙ kept_said y

      module _ (kept settled : Bool) (is : kept ≡ vectors table s.start) (decides : Decides settled (ForGood moves (vectors table) kept)) where
        now_kept : kept ≡ is_kept (watched (on b cs))
        now_kept = is ∙ ap (vectors table) s.started ∙ at_rest [] ∙ ap (λ (es : List ℕ). is_kept (watched (on b es))) (append-nil cs)

        module _ (t : Standing) (verdict : t.verdict ≡ constant yes_no kept) (final : t.finality ≡ cond settled Finality.ForGood Finality.SoFar) where
          settles : (y : Bool) → Settles t (constant yes_no y) ↔ Whatever b cs (constant yes_no y)
          settles y = (
            λ (v, f).
                let same : kept ≡ y = sym (kept_said kept) ∙ ap is_kept (sym verdict ∙ v) ∙ kept_said y in
                to_whatever y (subst (ForGood moves (vectors table)) same (decides.0 (good_true settled (sym final ∙ f)))),
            λ all.
                let good = from_whatever y all in
                let same : y ≡ kept = sym (good [] tt) ∙ ap (vectors table) (sym s.started) ∙ sym is in
                let done : settled ≡ true = decides.1 (subst (ForGood moves (vectors table)) same good) in
                (verdict ∙ ap (constant yes_no) (sym same), final ∙ ap (λ (z : Bool). cond z Finality.ForGood Finality.SoFar) done),
          )

          pub tells : t.count ≡ length cs → t.residual ≡ x → Tells b cs t
          tells count residual = record {
            verdict = verdict ∙ ap (constant yes_no) now_kept ∙ said_kept (watched (on b cs));
            count = count;
            residual = subst (λ (z : Residual). StandsFor z (residual_of b cs)) (sym residual) stands;
            kept = settles true;
            broken = settles false;
          }
