-- The weights of states as natural numbers: what the fixed algebra and the whole numbers both give where weights never rise. Assumes nothing.
use Rattle.std.proofs.Common.{◌≡◌, ℕ, suc, ◌+◌, ◌-◌, ◌*◌, ◌^◌, ◌≤◌, Bool, true, false, cond, leb, List, [], ◌∷◌, pos, sym, refl, ap, ◌∙◌, inl, inr, mul-zero, mul-add, arith}
use native.Mathlib.Nat.{add-mod}
use Rattle.std.proofs.lemmas.Bool.{cases_lt}
use Rattle.std.proofs.lemmas.Bool.Decides.{nat_tests}
use Rattle.needs.specs.Levels.{Need}
use Rattle.weights.specs.Chances.{chance}
use Rattle.algebras.specs.Model.{Model}
use Rattle.algebras.specs.Residues.{number}
use Rattle.std.proofs.lemmas.Nat.{mul-mod_first}
use Rattle.algebras.specs.ResidueLaws.{same_number}
use Rattle.algebras.specs.Models.{fixed_model}
use Rattle.totals.specs.Choices.{Setting}
use Rattle.totals.proofs.Groups.{minus_from}
use Rattle.inclusion_exclusion.specs.States.{State, states, arrives, step_at, state_walked, state_weight}
use Rattle.inclusion_exclusion.specs.WholeNumbers.{exact_model}
use Rattle.inclusion_exclusion.specs.Reliability.{Proper}

abbrev pub summed : {X : Type 0} → List X → (X → ℕ) → ℕ
summed [] f = 0
summed (x ∷ xs) f = f x + summed xs f

module _ (s : Setting) where
  -- the chance of a level or more: none above the top
  abbrev pub reach : (component level : ℕ) → ℕ
  reach i l = cond (leb l s.top) (chance s.card i l) 0

  -- the chance of just that level
  abbrev pub just : (component level : ℕ) → ℕ
  just i l = reach i l - reach i (suc l)

  abbrev pub natural_walked : ℕ → State → ℕ → ℕ
  natural_walked i [] k = k
  natural_walked i (l ∷ x) k = natural_walked (suc i) x (k * just i l)

  abbrev pub natural_start : ℕ
  natural_start = 2 ^ (6 * (8 - s.components))

  abbrev pub natural_weight : State → ℕ
  natural_weight x = natural_walked 0 x natural_start

  abbrev pub natural_reliability : List Need → ℕ
  natural_reliability ds = summed (states s.top s.components) (λ x. cond (arrives x ds) (natural_weight x) 0)

-- what is reached never rises with the level
pub reach_falls : (s : Setting) → Proper s → (i l : ℕ) → reach s i (suc l) ≤ reach s i l
reach_falls s proper i l =
    elim (cases_lt l s.top) [
      | inl under ↦ let falls = proper.falling i l under in grind (arith, nat_tests)
      | inr over ↦ grind (arith, nat_tests)
    ]

-- in a model into which the natural numbers go, with their sums, and where a step multiplies by the chance
module _ (m : Model) (s : Setting) (of : ℕ → m.Carrier) (of-plus : (a b : ℕ) → of (a + b) ≡ m.plus (of a) (of b)) (of_zero : of 0 ≡ m.zero)
    (of-step : (i l k : ℕ) → m.step (chance s.card) s.top i l (of k) ≡ of (k * chance s.card i l)) (falls : (i l : ℕ) → reach s i (suc l) ≤ reach s i l) where
  step_reaches : (b : Bool) (i l k : ℕ) → cond b (m.step (chance s.card) s.top i l (of k)) m.zero ≡ of (k * cond b (chance s.card i l) 0)
  step_reaches true i l k = of-step i l k
  step_reaches false i l k = sym (ap of (mul-zero k) ∙ of_zero)

  less : (k a b : ℕ) → b ≤ a → m.minus (of (k * a)) (of (k * b)) ≡ of (k * (a - b))
  less k a b h =
      sym (minus_from m (of (k * a)) (of (k * b)) (of (k * (a - b)))
      (sym (of-plus (k * (a - b)) (k * b)) ∙ ap of (sym (mul-add k (a - b) b) ∙ ap (λ n. k * n) {x = a - b + b} {y = a} (omega arith))))

  step_just : (i l k : ℕ) → step_at m s i l (of k) ≡ of (k * just s i l)
  step_just i l k =
      (λ j. m.minus (step_reaches (leb l s.top) i l k j) (step_reaches (leb (suc l) s.top) i (suc l) k j))
      ∙ less k (reach s i l) (reach s i (suc l)) (falls i l)

  walked_natural : (x : State) (i k : ℕ) → state_walked m s i x (of k) ≡ of (natural_walked s i x k)
  walked_natural [] i k = refl
  walked_natural (l ∷ x) i k = ap (state_walked m s (suc i) x) (step_just i l k) ∙ walked_natural x (suc i) (k * just s i l)

pub exact_weight : (s : Setting) (x : State) → Proper s → state_weight exact_model s x ≡ pos (natural_weight s x)
exact_weight s x proper = walked_natural exact_model s pos (λ a b. refl) refl (λ i l k. refl) (reach_falls s proper) x 0 (natural_start s)

pub fixed_weight : (s : Setting) (x : State) → Proper s → state_weight fixed_model s x ≡ number (natural_weight s x)
fixed_weight s x proper =
    walked_natural fixed_model s number (λ a b. same_number (add-mod a b (2 ^ 64))) refl (λ i l k. same_number (mul-mod_first k (chance s.card i l) (2 ^ 64)))
    (reach_falls s proper) x 0 (natural_start s)
