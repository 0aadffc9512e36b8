-- What stands in a place of a list: at each place one thing, and at each place before the end something. Assumes nothing.
use Rattle.std.proofs.Common.{◌≡◌, ℕ, ◌<◌, List, length, get_or, sym, ◌∙◌}
use Rattle.std.proofs.lemmas.List.{get_or_default}
use Rattle.calls.specs.Law.{StandsIn}

module _ {X : Type 0} (xs : List X) (p : ℕ) where
  pub one_in_place : (x y : X) → StandsIn xs p x → StandsIn xs p y → x ≡ y
  one_in_place x y (inside, first) (also, second) = sym first ∙ get_or_default xs p x y inside ∙ second

  -- any x does for the places past the end
  pub in_place : X → p < length xs → (x : X) × StandsIn xs p x
  in_place past inside = (get_or xs p past, (inside, get_or_default xs p (get_or xs p past) past inside))
