use Rattle.std.proofs.Common.{◌≡◌, ◌-◌, ◌<◌, true, [], ◌∷◌, ◌++◌, get_or, take, sym, ap, ◌∙◌, arith}
use Rattle.std.proofs.lemmas.List.{get_or-take}
use Rattle.rules.specs.Tree.{fits, node_at, decode, flatten}
use Rattle.rules.specs.declared.node.Node.{Node}
use Rattle.rules.proofs.rule.Rule.new.Goals as goal

pub invariant_of-result : goal.invariant_of-result
invariant_of-result c =
    let a = c.empty-table.result in
    let t = c.put.new.self in
    let s : t.size ≡ 1 = omega (arith, c.put.ensures.size, c.empty-table.ensures.size) in
    let is : take t.size t.nodes ≡ Node.Truth true ∷ [] = c.put.ensures.nodes ∙ ap (λ n. take n a.nodes ++ Node.Truth true ∷ []) c.empty-table.ensures.size in
    record {
      some = omega arith;
      few = t.few;
      known = t.known;
      ok = λ i h.
          let z : i ≡ 0 = omega arith in
          let low : 0 < t.size = omega arith in
          let first : node_at t.nodes 0 ≡ Node.Truth true = sym (get_or-take t.size t.nodes 0 (Node.Letter 0) low) ∙ ap (λ xs. get_or xs 0 (Node.Letter 0)) is in
          ap (λ j. fits t.count j (node_at t.nodes j)) z ∙ ap (fits t.count 0) first;
      flat = ap (λ xs. flatten (decode (node_at xs) (t.size - 1)) 0) is ∙ ap (λ n. flatten (decode (node_at (Node.Truth true ∷ [])) (n - 1)) 0) s ∙ sym is;
    }

pub returns : goal.returns
returns c =
    let a = c.empty-table.result in
    let t = c.put.new.self in
    record {
      nodes = c.put.ensures.nodes ∙ ap (λ n. take n a.nodes ++ Node.Truth true ∷ []) c.empty-table.ensures.size;
      letters = ap (λ n. take n t.letters) (c.put.ensures.count ∙ c.empty-table.ensures.count);
    }
