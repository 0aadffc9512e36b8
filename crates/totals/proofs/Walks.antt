-- The walk over components as a fold over their numbers. Assumes nothing.
use Rattle.std.proofs.Common.{◌≡◌, ℕ, zero, suc, refl, ap, ◌∙◌, add-one}
use Rattle.std.specs.List.{fold, range_with_len}
use Rattle.needs.specs.Levels.{Need}
use Rattle.weights.specs.Chances.{chance}
use Rattle.algebras.specs.Model.{Model}
use Rattle.totals.specs.Choices.{Setting, walked}

module _ (m : Model) (s : Setting) (d : Need) where
  abbrev pub taken : m.Carrier → ℕ → m.Carrier
  taken x i = m.step (chance s.card) s.top i (d i) x

  pub walk_is_fold : (left i : ℕ) (x : m.Carrier) → fold taken x (range_with_len i left) ≡ walked m s left i d x
  walk_is_fold zero i x = refl
  walk_is_fold (suc left) i x = ap (λ k. fold taken (taken x i) (range_with_len k left)) (add-one i) ∙ walk_is_fold left (suc i) (taken x i)
