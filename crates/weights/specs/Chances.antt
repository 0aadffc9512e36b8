-- The chances of the components.
--
-- weight     the chance, in 64ths, that a component reaches a level or more; at level 0 it is 64, certainty
-- row        the weights of one component, from level 1 up
-- card       a row for each component, the first for component 0
-- falling    a row whose weights never rise with the level and never pass 64, up to the top level
-- trimmed    a row whose weights above the top level are noted as 0
use Rattle.std.specs.Prelude.{ℕ, zero, suc, ◌<◌, ◌≤◌, List, [], ◌∷◌, slice_index, slice_index_or}

abbrev pub weight : List ℕ → ℕ → ℕ
weight row zero = 64
weight row (suc l) = slice_index row l

abbrev pub chance : List (List ℕ) → ℕ → ℕ → ℕ
chance card i l = weight (slice_index_or card i []) l

abbrev pub Falling : ℕ → List ℕ → Type 0
Falling top row = (l : ℕ) → l < top → weight row (suc l) ≤ weight row l

abbrev pub trimmed : (top : ℕ) → List ℕ → List ℕ
trimmed top [] = []
trimmed zero (w ∷ row) = 0 ∷ trimmed zero row
trimmed (suc top) (w ∷ row) = w ∷ trimmed top row
