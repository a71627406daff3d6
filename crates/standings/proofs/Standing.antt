-- How a rule stands after events, from what its tree means. Assumes nothing.
use Rattle.std.proofs.Common.{◌≡◌, ℕ, ◌+◌, Bool, true, cond, ◌||◌, ◌==◌, nat_le, List, [], ◌++◌, length, refl, sym, ap, ap₂, ◌∙◌, arith}
use Rattle.rules.specs.Names.{gather, numbered}
use Rattle.rules.specs.Rules.{node_count, nodes_of, tree_of_rule}
use Rattle.rules.specs.Tree.{Tree, size, flatten, node_at}
use Rattle.rules.specs.declared.node.Node.{Node}
use Rattle.rules.specs.declared.rule.Letter.{Letter}
use Rattle.rules.specs.declared.rule.Rule.{Rule}
use Rattle.rules.proofs.Flat.{flat_length, flat_decode}
use Rattle.rules.proofs.Numbering.{size_numbered}
use Rattle.readings.specs.Binding.{numbers_for}
use Rattle.readings.specs.Meaning.{Meaning}
use Rattle.verdicts.specs.Case.{Subject, on, verdict}
use Rattle.verdicts.specs.Meaning.{means, rows}
use Rattle.verdicts.specs.Valuation.{laid}
use Rattle.verdicts.specs.YesNo.{yes_no, other}
use Rattle.verdicts.specs.declared.scale.YesNo.{YesNo}
use Rattle.verdicts.specs.declared.scale.YesNo.TheVariants.{Broken, Kept}
use Rattle.progression.specs.Obligations.{obligations, is_obligation, count_below, any_below, lasts, looks_at}
use Rattle.monitor.specs.Monitored.{watched, Undoubted, Each}
use Rattle.monitor.specs.Standings.{Whatever, Tells, Settles}
use Rattle.monitor.specs.declared.standing.Finality.{Finality}
use Rattle.monitor.specs.declared.standing.Standing.{Standing}
use Rattle.examples.specs.Table.{verdict_on}
use Rattle.standings.specs.Table.{Tabled, StandsAt, Told, bound_to}

-- the obligations of a table of n nodes
unfoldable pub obligations_of : List Node → ℕ → ℕ
obligations_of ns n = count_below (λ j. j + 1 == n || (lasts (node_at ns j) || any_below n (λ k. looks_at j (node_at ns k)))) n

obligations_table : (r : Rule) → obligations r ≡ obligations_of (nodes_of r) (node_count r)
unfolding obligations is_obligation obligations_of
obligations_table r = refl

-- no more than eight obligations: the tree is monitored
abbrev pub Few : Tree Letter → Type 0
Few t = nat_le (obligations_of (flatten (numbered (gather [] t) t) 0) (size t)) 8 ≡ true

-- what a tree means on a trace, over a table that has k letters
abbrev over : Meaning → Tree Letter → List ℕ → Tree ℕ → ℕ → YesNo
over m t cs u k = means yes_no u (rows (length cs) k (laid yes_no Broken m (numbers_for m (gather [] t)) cs))

module _ (m : Meaning) (t : Tree Letter) (few : Few t) (r : Rule) (is : Tabled t r) where
  few_obligations : nat_le (obligations r) 8 ≡ true
  few_obligations = ap (λ n. nat_le n 8) (obligations_table r ∙ ap₂ obligations_of is.nodes is.count) ∙ few

  long : length (nodes_of r) ≡ node_count r
  long = ap length is.nodes ∙ flat_length (numbered (gather [] t) t) 0 ∙ size_numbered (gather [] t) t ∙ sym is.count

  tree_is : tree_of_rule r ≡ numbered (gather [] t) t
  tree_is = flat_decode (numbered (gather [] t) t) (nodes_of r) (node_count r) long (sym is.nodes)

  watched_is : (cs : List ℕ) → watched (on (bound_to m t r) cs) ≡ verdict_on yes_no Broken m t cs
  watched_is cs =
      ap (λ (x : Bool). cond x (verdict (on (bound_to m t r) cs)) Broken) few_obligations ∙ ap₂ (over m t cs) tree_is is.letters

  pub for_good : (cs : List ℕ) (v : YesNo) → verdict_on yes_no Broken m t cs ≡ v → ((rest : List ℕ) → verdict_on yes_no Broken m t (cs ++ rest) ≡ v) → StandsAt (bound_to m t r) cs v Finality.ForGood
  for_good cs v now later = (watched_is cs ∙ now, λ rest _. watched_is (cs ++ rest) ∙ later rest)

  pub so_far : (cs : List ℕ) (v : YesNo) → verdict_on yes_no Broken m t cs ≡ v → (rest : List ℕ) → Each (Undoubted (bound_to m t r)) rest → verdict_on yes_no Broken m t (cs ++ rest) ≡ other v → StandsAt (bound_to m t r) cs v Finality.SoFar
  so_far cs v now rest may later = (watched_is cs ∙ now, (rest, may, watched_is (cs ++ rest) ∙ later))

unchanged : (v : YesNo) → v ≡ other v → ⊥
unchanged Broken e = let z : ◌≡◌ {A = ℕ} 0 1 = cc in omega arith
unchanged Kept e = let z : ◌≡◌ {A = ℕ} 0 1 = cc in omega arith

module _ (b : Subject) (cs : List ℕ) (s : Standing) (tells : Tells b cs s) where
  settled : (v : YesNo) → Whatever b cs v → Settles s v
  settled Broken w = tells.broken.1 w
  settled Kept w = tells.kept.1 w

  whatever : (v : YesNo) → Settles s v → Whatever b cs v
  whatever Broken e = tells.broken.0 e
  whatever Kept e = tells.kept.0 e

  not_for_good : (f : Finality) → s.finality ≡ f → (f ≡ Finality.ForGood → ⊥) → f ≡ Finality.SoFar
  not_for_good Finality.SoFar e never = refl
  not_for_good Finality.ForGood e never = absurd (never refl)

pub told : Told
told b cs v Finality.ForGood s (now, later) tells = settled b cs s tells v later
told b cs v Finality.SoFar s (now, (rest, may, later)) tells =
    let said : s.verdict ≡ v = tells.verdict ∙ now in (
      said,
      not_for_good b cs s tells s.finality refl (λ e. unchanged v (sym (whatever b cs s tells v (said, e) rest may) ∙ later)),
    )
