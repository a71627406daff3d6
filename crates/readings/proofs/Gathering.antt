-- A list of names, checked one by one. Assumes nothing.
use Rattle.std.proofs.Common.{◌≡◌, ℕ, ◌+◌, ◌<◌, ◌≤◌, true, false, ltb, List, [], length, get_or, take, is_some, Some, None, Option, refl, ◌∙◌, subst, ⊎_elim, arith, Bor}
use Rattle.std.proofs.lemmas.List.{get_or-map, length-map}
use Rattle.std.proofs.lemmas.Bool.{cond-true, cond-false, cases_lt, lt-ltb, le-ltb}
use Rattle.rules.specs.First.{first}
use Rattle.rules.specs.Signs.{is_name}
use Rattle.rules.specs.declared.fault.Fault.{Fault}
use Rattle.rules.specs.declared.fault.Fault.TheVariants.{ManyNames, NotAName, RepeatedName}
use Rattle.rules.proofs.First.{first_some}
use Rattle.readings.specs.Listed.{lent, name_at, find_in, wrong_at, refused_names, kept_by}

pub lent_length : (ns : List (Bor (List ℕ))) → length (lent ns) ≡ length ns
lent_length ns = length-map ns (λ x. x.now)

pub lent_at : (ns : List (Bor (List ℕ))) (i : ℕ) (d : Bor (List ℕ)) → i < length ns → name_at (lent ns) i ≡ (get_or ns i d).now
lent_at ns i d low = get_or-map (λ y. y.now) ns i d [] low

module _ (most : ℕ) (ns : List (List ℕ)) where
  pub too_many : most < length ns → refused_names most ns ≡ Some (ManyNames (most + 1))
  unfolding refused_names
  too_many h = cond-true (ltb most (length ns)) _ _ (lt-ltb most (length ns) h)

  pub wrong_first : (i : ℕ) (f : Fault) → length ns ≤ most → i < length ns → first i (wrong_at ns) ≡ None → wrong_at ns i ≡ Some f → refused_names most ns ≡ Some f
  unfolding refused_names
  wrong_first i f h low none here =
      cond-false (ltb most (length ns)) _ _ (le-ltb most (length ns) h) ∙ first_some (wrong_at ns) (length ns) i f low none here

  pub none_wrong : (i : ℕ) → length ns ≤ most → i ≡ length ns → first i (wrong_at ns) ≡ None → refused_names most ns ≡ None
  unfolding refused_names
  none_wrong i h all none =
      cond-false (ltb most (length ns)) _ _ (le-ltb most (length ns) h) ∙ subst (λ k. first k (wrong_at ns) ≡ None) all none

kept_few_by : (most : ℕ) (ns : List (List ℕ)) (o : Option Fault) → refused_names most ns ≡ o → length (kept_by o ns) ≤ most
kept_few_by most ns None e =
    ⊎_elim (λ (h : most < length ns). let f = too_many most ns h in let z : ◌≡◌ {A = ℕ} 0 1 = cc in absurd (omega arith)) (λ (h : length ns ≤ most). h) (cases_lt most (length ns))
kept_few_by most ns (Some f) e = omega arith

-- no more names are kept than may be
pub kept_few : (most : ℕ) (ns : List (List ℕ)) → length (kept_by (refused_names most ns) ns) ≤ most
kept_few most ns = kept_few_by most ns (refused_names most ns) refl

module _ (ns : List (List ℕ)) (i : ℕ) where
  pub no_name : is_name (name_at ns i) ≡ false → wrong_at ns i ≡ Some (NotAName (i + 1))
  no_name e = cond-false (is_name (name_at ns i)) _ _ e

  pub repeated : is_name (name_at ns i) ≡ true → is_some (find_in (take i ns) (name_at ns i)) ≡ true → wrong_at ns i ≡ Some (RepeatedName (i + 1))
  repeated e f = cond-true (is_name (name_at ns i)) _ _ e ∙ cond-true (is_some (find_in (take i ns) (name_at ns i))) _ _ f

  pub fine : is_name (name_at ns i) ≡ true → is_some (find_in (take i ns) (name_at ns i)) ≡ false → wrong_at ns i ≡ None
  fine e f = cond-true (is_name (name_at ns i)) _ _ e ∙ cond-false (is_some (find_in (take i ns) (name_at ns i))) _ _ f
