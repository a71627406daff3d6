use Rattle.std.proofs.Common.{◌≡◌, ℕ, ◌+◌, ◌<◌, true, false, List, [], ◌∷◌, ◌++◌, map, length, get_or, take, is_some, Some, None, Option, MatchOption, sym, ap, ◌∙◌, ap₂, arith, rules, Bor}
use Rattle.std.proofs.lemmas.List.{take_more, take_all}
use Rattle.rules.specs.Names.{spelled}
use Rattle.rules.specs.Signs.{is_name}
use Rattle.rules.proofs.First.{first_start, first_more}
use Rattle.readings.specs.Listed.{lent, name_at, find_in, refused_names, wrong_at}
use Rattle.readings.proofs.Found.{left_out, let_in}
use Rattle.readings.proofs.Gathering.{lent_length, lent_at, too_many, wrong_first, none_wrong, no_name, repeated, fine}
use Rattle.readings.proofs.listed.NameList.gather.Goals as goal

pub returns-then-names : goal.returns-then-names
returns-then-names g c =
    let ns = c.args.names.now in
    too_many g.row.MOST (lent ns) (omega (arith, lent_length ns))

pub loop-i-init : goal.loop-i-init
loop-i-init g c =
    (c.empty-list.ensures, ap (λ k. map spelled (take k c.empty-list.result.names)) c.empty-list.ensures, first_start (wrong_at (lent c.args.names.now)))

pub returns-in_err-name : goal.returns-in_err-name
returns-in_err-name g c =
    let ns = c.args.names.now in
    let i = c.loop-i.i in
    let bad = left_out _ _ c.read.result _ _ c.read.ensures (sym c.ok_or.ensures.value ∙ c.in_err-name.was) in
    let here : is_name (name_at (lent ns) i) ≡ false = ap is_name (lent_at ns i _ c.loop-i-test.true) ∙ bad.0 in
    let is : refused_names g.row.MOST (lent ns) ≡ Some c.in_err-name.field-0.0 = wrong_first g.row.MOST (lent ns) i _ (omega (arith, lent_length ns)) (omega (arith, lent_length ns)) c.loop-i.invariant.2 (no_name (lent ns) i here ∙ ap Some bad.1) in
    search rules

-- whether name i stands before is what the list answers
before : (ns : List (Bor (List ℕ))) (l : List (List ℕ)) (i : ℕ) (d : Bor (List ℕ)) (o : Option ℕ) (few : ℕ) → i < length ns → l ≡ take i (lent ns) → MatchOption o (find_in l (get_or ns i d).now ≡ None) (λ k. (k < few) × (find_in l (get_or ns i d).now ≡ Some (k + 1))) → is_some (find_in (take i (lent ns)) (name_at (lent ns) i)) ≡ is_some o
before ns l i d None few low so is = ap is_some (ap₂ find_in (sym so) (lent_at ns i d low) ∙ is)
before ns l i d (Some k) few low so is = ap is_some (ap₂ find_in (sym so) (lent_at ns i d low) ∙ is.1)

pub returns-then-is_some : goal.returns-then-is_some
returns-then-is_some g c =
    let ns = c.args.names.now in
    let i = c.loop-i.i in
    let name = let_in _ _ c.read.result _ _ c.read.ensures (sym c.ok_or.ensures.value ∙ c.in_ok-name.was) in
    let good : is_name (name_at (lent ns) i) ≡ true = ap is_name (lent_at ns i _ c.loop-i-test.true) ∙ name.0 in
    let again = before ns _ i _ _ _ c.loop-i-test.true c.loop-i.invariant.1 c.place.ensures ∙ sym c.if-is_some.ensures in
    wrong_first g.row.MOST (lent ns) i _ (omega (arith, lent_length ns)) (omega (arith, lent_length ns)) c.loop-i.invariant.2 (repeated (lent ns) i good again)

pub loop-i-preserved : goal.loop-i-preserved
loop-i-preserved g c =
    let ns = c.args.names.now in
    let i = c.loop-i.i in
    let low : i < length (lent ns) = omega (arith, lent_length ns) in
    let name = let_in _ _ c.read.result _ _ c.read.ensures (sym c.ok_or.ensures.value ∙ c.in_ok-name.was) in
    let at = lent_at ns i _ c.loop-i-test.true in
    let good : is_name (name_at (lent ns) i) ≡ true = ap is_name at ∙ name.0 in
    let new = before ns _ i _ _ _ c.loop-i-test.true c.loop-i.invariant.1 c.place.ensures ∙ sym c.if-is_some.ensures in (
      omega (arith, c.push.ensures.count, c.loop-i.invariant.0),
      c.push.ensures.names ∙ ap₂ (λ xs x. xs ++ x ∷ []) c.loop-i.invariant.1 (name.1 ∙ sym at) ∙ sym (take_more (lent ns) i [] low),
      first_more (wrong_at (lent ns)) i c.loop-i.invariant.2 (fine (lent ns) i good new),
    )

pub returns : goal.returns
returns g c =
    let ns = c.args.names.now in
    let i = c.loop-i.i in
    (none_wrong g.row.MOST (lent ns) i (omega (arith, lent_length ns)) (omega (arith, lent_length ns)) c.loop-i.invariant.2, c.loop-i.invariant.1 ∙ take_all i (lent ns) (omega (arith, lent_length ns)))
