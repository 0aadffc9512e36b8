-- The states of a sheet's components, and the total as a sum over states.
--
-- state      a level for each component, the first for component 0
-- states     all of them, with levels from 0 to the top
-- meets      a state meets a need when each component has at least the level needed
-- met        how many of some needs a state meets
-- arrives    a warning arrives in a state that meets one need or more
-- weight     of a state: as that of a need, but each component takes the step at its level less the step at the next one; a step above the top gives zero
-- count      how often a total counts a state: never if it meets no need, else 1 - (-1)^depth * B(k - 1, depth) times for k needs met
-- times      a value added up as often as a number says, subtracted where the number is negative
use Rattle.std.specs.Prelude.{◌≡◌, ℕ, zero, suc, ◌+◌, ◌%◌, ◌≤◌, Bool, true, cond, ◌&&◌, List, [], ◌∷◌, ◌++◌, map, ℤ, pos, negsuc, ◌+ℤ◌, ◌-ℤ◌, ◌==◌, nat_le, nat_lt}
use Rattle.std.specs.List.{AllByRecursion}
use Rattle.needs.specs.Levels.{Need}
use Rattle.weights.specs.Chances.{chance}
use Rattle.algebras.specs.Model.{Model}
use Rattle.totals.specs.Choices.{Setting, added, total}

abbrev pub State : Type 0
State = List ℕ

-- each level below a bound in front of each state
abbrev pub fronted : (bound : ℕ) → List State → List State
fronted zero xs = []
fronted (suc l) xs = map (λ x. l ∷ x) xs ++ fronted l xs

abbrev pub states : (top components : ℕ) → List State
states top zero = [] ∷ []
states top (suc n) = fronted (suc top) (states top n)

-- the levels from component i on
abbrev pub meets_from : ℕ → State → Need → Bool
meets_from i [] d = true
meets_from i (l ∷ x) d = nat_le (d i) l && meets_from (suc i) x d

abbrev pub meets : State → Need → Bool
meets = meets_from 0

abbrev pub met : State → List Need → ℕ
met x [] = 0
met x (d ∷ ds) = cond (meets x d) (suc (met x ds)) (met x ds)

abbrev pub arrives : State → List Need → Bool
arrives x ds = nat_lt 0 (met x ds)

-- B(n, r): the ways to choose r things from n
abbrev pub choose : ℕ → ℕ → ℕ
choose n zero = 1
choose zero (suc r) = 0
choose (suc n) (suc r) = choose n r + choose n (suc r)

abbrev pub count : (needs_met depth : ℕ) → ℤ
count zero r = pos 0
count (suc k) r = cond (r % 2 == 0) (pos 1 -ℤ pos (choose k r)) (pos 1 +ℤ pos (choose k r))

abbrev pub times : (m : Model) → ℤ → m.Carrier → m.Carrier
times m (pos zero) x = m.zero
times m (pos (suc k)) x = m.plus x (times m (pos k) x)
times m (negsuc zero) x = m.minus m.zero x
times m (negsuc (suc k)) x = m.minus (times m (negsuc k) x) x

module _ (m : Model) (s : Setting) where
  abbrev pub step_within : (component level : ℕ) → m.Carrier → m.Carrier
  step_within i l x = cond (nat_le l s.top) (m.step (chance s.card) s.top i l x) m.zero

  -- for a component that reaches a level, and none above it
  abbrev pub step_at : (component level : ℕ) → m.Carrier → m.Carrier
  step_at i l x = m.minus (step_within i l x) (step_within i (suc l) x)

  -- through the steps of component i and on
  abbrev pub state_walked : ℕ → State → m.Carrier → m.Carrier
  state_walked i [] x = x
  state_walked i (l ∷ ls) x = state_walked (suc i) ls (step_at i l x)

  abbrev pub state_weight : State → m.Carrier
  state_weight x = state_walked 0 x (m.start s.components)

  abbrev pub over_states : (State → m.Carrier) → m.Carrier
  over_states f = added m (map f (states s.top s.components))

  abbrev pub counted_total : (depth : ℕ) → List Need → m.Carrier
  counted_total depth ds = over_states (λ x. times m (count (met x ds) depth) (state_weight x))

-- no need asks for a level above the top
abbrev pub Within : (top : ℕ) → List Need → Type 0
Within top = AllByRecursion (λ d. (i : ℕ) → d i ≤ top)

abbrev pub TotalsCountStates : Model → Type 0
TotalsCountStates m = (s : Setting) (ds : List Need) (depth : ℕ) → Within s.top ds → total m s depth ds ≡ counted_total m s depth ds
