-- What an algebra is: values that can be added and subtracted, and the step that takes a component at a level into account.
--
-- carrier    what the values mean
-- start      the value for a number of components, before any step
-- step       the change of a value for one component at one level; it may look at the card's chances and at the top level
use Rattle.std.specs.Prelude.{◌≡◌, ℕ}

pub record Model : Type 1 where
  pub Carrier : Type 0
  pub zero : Carrier
  pub plus : Carrier → Carrier → Carrier
  pub minus : Carrier → Carrier → Carrier
  pub start : (components : ℕ) → Carrier
  pub step : (chance : ℕ → ℕ → ℕ) (top component level : ℕ) → Carrier → Carrier
  pub plus_assoc : (x y z : Carrier) → plus (plus x y) z ≡ plus x (plus y z)
  pub plus_comm : (x y : Carrier) → plus x y ≡ plus y x
  pub plus_zero : (x : Carrier) → plus x zero ≡ x
  pub minus_plus : (x y : Carrier) → plus (minus x y) y ≡ x
  pub step_plus : (chance : ℕ → ℕ → ℕ) (top component level : ℕ) (x y : Carrier) → step chance top component level (plus x y) ≡ plus (step chance top component level x) (step chance top component level y)
