-- Inclusion-exclusion over the needs of a sheet, in any algebra.
--
-- setting    a sheet's number of components, its card of chances and the top level of its kind
-- weight     of a need: the start, taken through the step of each component at the level needed
-- choice     some of the held needs, each taken at most once; its size is how many they are
-- sum        of a size: the weights of the joins of all choices of that size, added up
-- total      to a depth: the sums of sizes 1, 2, 3 and on up to the depth, with signs in turn, plus first;
--            there is no choice of more needs than are held, so larger sizes add nothing
use Rattle.std.specs.Prelude.{ℕ, zero, suc, ◌%◌, cond, List, [], ◌∷◌, ◌++◌, map, ◌==◌}
use Rattle.needs.specs.Levels.{Need, join}
use Rattle.weights.specs.Chances.{chance}
use Rattle.algebras.specs.Model.{Model}

pub record Setting : Type 0 where
  pub components : ℕ
  pub card : List (List ℕ)
  pub top : ℕ

abbrev pub setting : ℕ → List (List ℕ) → ℕ → Setting
setting n rows top = record { components = n; card = rows; top = top }

abbrev pub choices : {X : Type 0} → (size : ℕ) → List X → List (List X)
choices zero xs = [] ∷ []
choices (suc size) [] = []
choices (suc size) (x ∷ xs) = map (λ c. x ∷ c) (choices size xs) ++ choices (suc size) xs

-- a choice of none asks for nothing
abbrev pub joined : List Need → Need
joined [] = λ i. 0
joined (d ∷ ds) = join d (joined ds)

-- f 0 − f 1 + f 2 and so on, so many terms
abbrev pub alternating : (m : Model) → (ℕ → m.Carrier) → (terms : ℕ) → m.Carrier
alternating m f zero = m.zero
alternating m f (suc k) = cond (k % 2 == 0) (m.plus (alternating m f k) (f k)) (m.minus (alternating m f k) (f k))

abbrev pub added : (m : Model) → List m.Carrier → m.Carrier
added m [] = m.zero
added m (x ∷ xs) = m.plus x (added m xs)

module _ (m : Model) (s : Setting) where
  -- through the steps of components i, i + 1 and on, as many as are left
  abbrev pub walked : (left i : ℕ) → Need → m.Carrier → m.Carrier
  walked zero i d x = x
  walked (suc left) i d x = walked left (suc i) d (m.step (chance s.card) s.top i (d i) x)

  abbrev pub weight : Need → m.Carrier
  weight d = walked s.components 0 d (m.start s.components)

  abbrev pub sum : (size : ℕ) → List Need → m.Carrier
  sum size ds = added m (map (λ c. weight (joined c)) (choices size ds))

  abbrev pub total : (depth : ℕ) → List Need → m.Carrier
  total depth ds = alternating m (λ k. sum (suc k) ds) depth
