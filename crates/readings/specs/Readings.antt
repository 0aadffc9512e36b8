-- Readings: the chances of a component as floats, and the weights that they become.
--
-- float          not-a-number, an infinity, or m × 2^e with a sign; 2^e is the fraction up e / down e
-- chance         a reading that is a number from 0 to 1; minus zero is zero
-- sixty_fourths  of a reading p: the largest whole number not above p × 64
-- at most        a whole number that is not above p × 64
use Rattle.std.specs.Prelude.{◌≡◌, ℕ, ◌*◌, ◌/◌, ◌<◌, ◌≤◌, true, false, List, pos, slice_index_or, Float}
use Rattle.std.specs.Float.{nan, inf, fin}
use Rattle.std.specs.Float.Ieee.{up, down}

abbrev pub IsChance : Float → Type 0
IsChance nan = ⊥
IsChance (inf s) = ⊥
IsChance (fin s m e) = (s ≡ true → m ≡ 0) × (m * up e ≤ down e)

abbrev pub AtMost : ℕ → Float → Type 0
AtMost w nan = ⊥
AtMost w (inf s) = ⊥
AtMost w (fin s m e) = w * down e ≤ m * up e * 64

abbrev pub sixty_fourths : Float → ℕ
sixty_fourths nan = 0
sixty_fourths (inf s) = 0
sixty_fourths (fin s m e) = m * up e * 64 / down e

-- the readings up to the top are chances
abbrev pub AreChances : (top : ℕ) → List Float → Type 0
AreChances top readings = (l : ℕ) → l < top → IsChance (slice_index_or readings l (fin false 0 (pos 0)))
