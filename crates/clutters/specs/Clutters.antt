-- Needs that stand one after another.
--
-- lowest     the first place where something is so
-- closed up  a row without the one in a place: those behind it move down by one, and the last place keeps what it holds
use Rattle.std.specs.Prelude.{ℕ, ◌-◌, ◌<◌, cond, List, ◌++◌, length, drop, nat_lt, slice_index_or}
use Rattle.std.specs.List.{remove}
use Rattle.needs.specs.Levels.{Need, Same}

-- the need in a place, where one stands, is so
abbrev pub At : (Need → Type 0) → List Need → ℕ → Type 0
At So ds p = (p < length ds) × So (slice_index_or ds p (λ i. 0))

abbrev pub Lowest : (ℕ → Type 0) → ℕ → Type 0
Lowest So p = So p × ((q : ℕ) → q < p → So q → ⊥)

abbrev pub SameAt : List Need → Need → ℕ → Type 0
SameAt ds d = At (Same d) ds

abbrev pub closed_up : {X : Type 0} → List X → (place : ℕ) → List X
closed_up xs p = cond (nat_lt p (length xs)) (remove xs p ++ drop (length xs - 1) xs) xs
