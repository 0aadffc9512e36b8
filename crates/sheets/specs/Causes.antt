-- The table of causes: for each call the causes of its refusal by number, in the order in which they are looked at.
--
-- cause      what makes a call refused, by its number
-- accepted   a call for which no cause holds
-- first      the number of the first cause that holds
-- comparable two needs of which one covers the other
use Rattle.std.specs.Prelude.{◌≡◌, ℕ, ◌<◌, ◌≤◌, ◌⊎◌, List, [], ◌∷◌, map, length, Some, None, Option, slice_index_or, Float}
use Rattle.needs.specs.Levels.{Need, Covers, width}
use Rattle.weights.specs.Chances.{Falling}
use Rattle.readings.specs.Readings.{AreChances, sixty_fourths}
use Rattle.sheets.specs.Standings.{Standing}
use Rattle.sheets.specs.declared.supposed.Supposed.{Supposed}

pub data Call (K : Type 0) : Type 0 where
  size : ℕ → Call K
  set : (component : ℕ) → (row : List ℕ) → Call K
  fit : K → Call K
  total : (depth : ℕ) → Call K
  bracket : (depth : ℕ) → Call K
  judge : (depth threshold : ℕ) → Call K
  set_by_readings : (component : ℕ) → (readings : List Float) → Call K
  strike : (place : ℕ) → Call K
  try_with : (component : ℕ) → Supposed → (depth : ℕ) → Call K
  find : K → Call K
  put_out call_in : Call K

abbrev pub Comparable : Need → Need → Type 0
Comparable d e = Covers d e ⊎ Covers e d

-- the need asks for a level above 0 from component n on
abbrev pub AsksFrom : ℕ → Need → Type 0
AsksFrom n d = (i : ℕ) × (n ≤ i) × (i < width) × (0 < d i)

abbrev pub ComparableAt : List Need → Need → ℕ → Type 0
ComparableAt ds d p = (p < length ds) × Comparable d (slice_index_or ds p (λ i. 0))

abbrev pub LowestComparable : List Need → Need → ℕ → Type 0
LowestComparable ds d p = ComparableAt ds d p × ((q : ℕ) → q < p → ComparableAt ds d q → ⊥)

-- the place that goes with a refusal, if one does
abbrev pub ToldPlace : List Need → Need → Option ℕ → Type 0
ToldPlace ds d None = Unit {0}
ToldPlace ds d (Some p) = LowestComparable ds d p

abbrev pub Outside : (low high : ℕ) → ℕ → Type 0
Outside low high n = (n < low) ⊎ (high < n)

abbrev pub clutter_causes : List Need → (capacity : ℕ) → Need → List (ℕ × Type 0)
clutter_causes ds capacity d = (5, (p : ℕ) × ComparableAt ds d p) ∷ (6, capacity ≤ length ds) ∷ []

module _ {K : Type 0} (levels : K → Need) (top capacity : ℕ) (s : Standing K) where
  abbrev pub causes : Call K → List (ℕ × Type 0)
  causes (size n) = (10, Outside 1 8 n) ∷ (11, 0 < length s.needs) ∷ []
  causes (set i row) = (1, s.components ≤ i) ∷ (2, Falling top row → ⊥) ∷ []
  causes (fit d) =
      (1, AsksFrom s.components (levels d))
      ∷ (4, AsksFrom 0 (levels d) → ⊥)
      ∷ clutter_causes (map levels s.needs) capacity (levels d)
  causes (total r) = (8, Outside 1 12 r) ∷ []
  causes (bracket r) = (8, Outside 1 12 r) ∷ []
  causes (judge r t) = (8, Outside 1 12 r) ∷ (9, 32768 < t) ∷ []
  causes (set_by_readings i ps) = (1, s.components ≤ i) ∷ (3, AreChances top ps → ⊥) ∷ (2, Falling top (map sixty_fourths ps) → ⊥) ∷ []
  causes (strike p) = (7, length s.needs ≤ p) ∷ []
  causes (try_with i what r) = (1, s.components ≤ i) ∷ (8, Outside 1 12 r) ∷ []
  causes (find d) = []
  causes put_out = []
  causes call_in = []

abbrev pub Accepted : List (ℕ × Type 0) → Type 0
Accepted [] = Unit {0}
Accepted (c ∷ cs) = (c.1 → ⊥) × Accepted cs

abbrev pub First : List (ℕ × Type 0) → ℕ → Type 0
First [] n = ⊥
First (c ∷ cs) n = (c.1 × (n ≡ c.0)) ⊎ ((c.1 → ⊥) × First cs n)
