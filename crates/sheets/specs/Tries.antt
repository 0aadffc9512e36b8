-- The standing that a try asks about.
--
-- dead       a component that never reaches a level above 0
-- sure       a component that always reaches the top
use Rattle.std.specs.Prelude.{ℕ, replicate}
use Rattle.sheets.specs.Standings.{Standing, weighted}
use Rattle.sheets.specs.declared.supposed.Supposed.{Supposed}
use Rattle.sheets.specs.declared.supposed.Supposed.TheVariants.{Dead, Sure}

abbrev pub weight_of : Supposed → ℕ
weight_of Dead = 0
weight_of Sure = 64

-- the component has that weight at every level up to the top, and all else is as it was
abbrev pub tried : {K : Type 0} → (top component : ℕ) → Supposed → Standing K → Standing K
tried top i what s = weighted top i (replicate 3 (weight_of what)) s
