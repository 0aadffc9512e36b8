-- The layout of a sheet file: its records, and the bytes that spell them.
--
-- ts         opens a sheet: its kind, its number of components, its threshold
-- wt         weights: a component and a row of chances
-- nd         a need
-- en         the end
-- form       how a kind of need is filed: its number, the top level, the bytes of a need and the need that they code
-- big_endian the number that bytes write, the greatest first
use Rattle.std.specs.Prelude.{◌≡◌, ℕ, ◌-◌, ◌*◌, List, [], ◌∷◌, ◌++◌, length, replicate, codes}
use Rattle.std.specs.Int.Digits.{number_from_digits}
use Rattle.needs.specs.Levels.{Need}

pub record Form (K : Type 0) : Type 0 where
  pub kind : ℕ
  pub top : ℕ
  pub width : ℕ
  pub coded : List ℕ → K
  pub levels : K → Need

abbrev pub form : {K : Type 0} → ℕ → ℕ → ℕ → (List ℕ → K) → (K → Need) → Form K
form kind top width coded levels = record { kind = kind; top = top; width = width; coded = coded; levels = levels }

abbrev pub big_endian : List ℕ → ℕ
big_endian bytes = number_from_digits 256 bytes

-- numbers of two bytes each
abbrev pub words : List ℕ → List ℕ
words [] = []
words (x ∷ []) = []
words (x ∷ y ∷ bytes) = big_endian (x ∷ y ∷ []) ∷ words bytes

-- a row with nothing above the weights that are filed
abbrev pub row_of : (top : ℕ) → List ℕ → List ℕ
row_of top bytes = words bytes ++ replicate (3 - top) 0

pub data Record (K : Type 0) : Type 0 where
  ts : (kind components threshold : ℕ) → Record K
  wt : (component : ℕ) → (row : List ℕ) → Record K
  nd : K → Record K
  en : Record K

abbrev pub Spells : {K : Type 0} → Form K → Record K → List ℕ → Type 0
Spells f (ts kind n t) bytes = (x : ℕ) × (y : ℕ) × (bytes ≡ codes "TS" ++ kind ∷ n ∷ x ∷ y ∷ []) × (t ≡ big_endian (x ∷ y ∷ []))
Spells f (wt i row) bytes = (ws : List ℕ) × (bytes ≡ codes "WT" ++ i ∷ ws) × (length ws ≡ 2 * f.top) × (row ≡ row_of f.top ws)
Spells f (nd d) bytes = (xs : List ℕ) × (bytes ≡ codes "ND" ++ xs) × (length xs ≡ f.width) × (d ≡ f.coded xs)
Spells f en bytes = bytes ≡ codes "EN"
