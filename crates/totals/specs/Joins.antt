-- Sums and totals over choices that are joined to a need taken before them, as the walk over choices meets them.
--
-- begun      the need taken so far; nothing at first
use Rattle.std.specs.Prelude.{ℕ, suc, List, map, Some, None, Option}
use Rattle.needs.specs.Levels.{Need, join}
use Rattle.algebras.specs.Model.{Model}
use Rattle.totals.specs.Choices.{Setting, choices, joined, weight, added, alternating}

abbrev pub begun : {K : Type 0} → (K → Need) → Option K → Need
begun levels None = λ i. 0
begun levels (Some d) = levels d

abbrev pub sum_from : (m : Model) → Setting → Need → (size : ℕ) → List Need → m.Carrier
sum_from m s j size ds = added m (map (λ c. weight m s (join j (joined c))) (choices size ds))

abbrev pub total_from : (m : Model) → Setting → Need → (depth : ℕ) → List Need → m.Carrier
total_from m s j depth ds = alternating m (λ k. sum_from m s j (suc k) ds) depth
