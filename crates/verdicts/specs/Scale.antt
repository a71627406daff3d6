-- What a scale of verdicts is: a distributive lattice with ends, and a negation of which nothing is asked. Assumes nothing.
use Rattle.std.specs.Prelude.{◌≡◌}

pub record Ops (V : Type 0) : Type 0 where
  pub bottom : V
  pub top : V
  pub meet : V → V → V
  pub join : V → V → V
  pub negate : V → V

pub record Laws {V : Type 0} (o : Ops V) : Type 0 where
  pub meet_assoc : (x y z : V) → o.meet (o.meet x y) z ≡ o.meet x (o.meet y z)
  pub join_assoc : (x y z : V) → o.join (o.join x y) z ≡ o.join x (o.join y z)
  pub meet_comm : (x y : V) → o.meet x y ≡ o.meet y x
  pub join_comm : (x y : V) → o.join x y ≡ o.join y x
  pub meet_join : (x y z : V) → o.meet x (o.join y z) ≡ o.join (o.meet x y) (o.meet x z)
  pub join_meet : (x y z : V) → o.join x (o.meet y z) ≡ o.meet (o.join x y) (o.join x z)
  pub meet_top : (x : V) → o.meet x o.top ≡ x
  pub join_bottom : (x : V) → o.join x o.bottom ≡ x
  pub meet_bottom : (x : V) → o.meet x o.bottom ≡ o.bottom
  pub join_top : (x : V) → o.join x o.top ≡ o.top
