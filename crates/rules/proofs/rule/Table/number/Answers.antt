use Rattle.std.proofs.Common.{◌≡◌, ◌+◌, ◌<◌, ◌≤◌, [], ◌∷◌, ◌++◌, length, take, set, Some, None, sym, refl, ap, ◌∙◌, arith, rules}
use Rattle.std.proofs.lemmas.List.{length-take-le, take_more_set}
use Rattle.rules.specs.Names.{place, names_of, names_in, table_letters, letter_at}
use Rattle.rules.proofs.Numbering.{found, place_le, place_new, known_letter, new_letter}
use Rattle.rules.proofs.rule.Table.number.Goals as goal

pub returns-in-Some : goal.returns-in-Some
returns-in-Some c =
    let a = c.args.self.now in
    let x = letter_at c.args.total c.args.s.now c.args.name in
    let fits : a.count ≤ length a.letters = search rules in
    let long : length (table_letters a) ≡ a.count = length-take-le a.count a.letters fits in
    let f = found (table_letters a) c.args.name (Some c.in-Some.i) (sym c.in-Some.is ∙ c.find.ensures) in
    record { is = f.1; room = omega (arith, f.0, f.1); keeps = known_letter a x fits (omega (arith, f.0, f.1)); nodes = refl; size = refl }

pub returns : goal.returns
returns c =
    let a = c.args.self.now in
    let w = c.args.name in
    let x = letter_at c.args.total c.args.s.now w in
    let room : a.count < length a.letters = search rules in
    let long : length (table_letters a) ≡ a.count = length-take-le a.count a.letters (omega arith) in
    let most = place_le (table_letters a) w in
    let new : length (table_letters a) ≤ place (names_in a) w = found (table_letters a) w None (sym c.in_default.is ∙ c.find.ensures) in
    let least : a.count ≤ place (names_in a) w = omega arith in
    let e = c.letter_at.ensures in
    let more = take_more_set a.letters a.count c.letter_at.result room ∙ ap (λ z. table_letters a ++ z ∷ []) e in
    record {
      is = sym (ap (λ z. place (names_of z) w) more ∙ place_new (table_letters a) x (omega arith) ∙ long);
      room = omega arith;
      keeps = ap (λ z. take (a.count + 1) (set a.letters a.count z)) e ∙ new_letter a x room least;
      nodes = refl;
      size = refl;
    }
