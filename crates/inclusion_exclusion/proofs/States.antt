-- The weight of a need is the sum of the weights of the states that meet it. Assumes nothing.
use Rattle.std.proofs.Common.{◌≡◌, ℕ, zero, suc, ◌≤◌, Bool, true, false, cond, ◌&&◌, leb, List, ◌∷◌, ◌++◌, map, sym, refl, ap, ◌∙◌}
use mathlib.Core.List.{map-map, map-append}
use Rattle.needs.specs.Levels.{Need}
use Rattle.weights.specs.Chances.{chance}
use Rattle.algebras.specs.Model.{Model}
use Rattle.totals.specs.Choices.{Setting, walked, weight, added}
use Rattle.totals.proofs.Sums.{added_append}
use Rattle.inclusion_exclusion.specs.States.{State, fronted, states, meets_from, meets, step_within, step_at, state_walked, state_weight, over_states}
use Rattle.inclusion_exclusion.proofs.Laws.{over, over_zero, keeps_zero}
use Rattle.inclusion_exclusion.proofs.Telescoping.{falls, step_falls}

module _ (m : Model) (s : Setting) where
  -- the states with one level in front, and those with the levels below it
  over_fronted : (l : ℕ) (xs : List State) (f : State → m.Carrier)
      → over m (fronted (suc l) xs) f ≡ m.plus (over m xs (λ x. f (l ∷ x))) (over m (fronted l xs) f)
  over_fronted l xs f =
      ap (added m) (map-append f (map (λ x. l ∷ x) xs) (fronted l xs) ∙ ap (λ ys. ys ++ map f (fronted l xs)) (map-map f (λ x. l ∷ x) xs))
      ∙ added_append m (map (λ x. f (l ∷ x)) xs) (map f (fronted l xs))

  walked_plus : (left i : ℕ) (d : Need) (x y : m.Carrier) → walked m s left i d (m.plus x y) ≡ m.plus (walked m s left i d x) (walked m s left i d y)
  walked_plus zero i d x y = refl
  walked_plus (suc left) i d x y =
      let step : m.Carrier → m.Carrier = m.step (chance s.card) s.top i (d i) in
      ap (walked m s left (suc i) d) (m.step_plus (chance s.card) s.top i (d i) x y) ∙ walked_plus left (suc i) d (step x) (step y)

  module _ (d : Need) where
    -- the walk of a state from component i on, if it meets the need and passes a test
    abbrev walked_if : Bool → (i : ℕ) → m.Carrier → State → m.Carrier
    walked_if b i x st = cond (b && meets_from i st d) (state_walked m s i st x) m.zero

    abbrev Walks : (left i : ℕ) → m.Carrier → Type 0
    Walks left i x = walked m s left i d x ≡ over m (states s.top left) (walked_if true i x)

    -- a value that a test keeps or drops
    tested : (b : Bool) (left i : ℕ) (x : m.Carrier) → Walks left i x
        → walked m s left i d (cond b x m.zero) ≡ over m (states s.top left) (walked_if b i x)
    tested true left i x walks = walks
    tested false left i x walks = keeps_zero m m (walked m s left i d) (walked_plus left i d) ∙ sym (over_zero m (states s.top left))

    -- the levels of component i below a bound
    levels : (c left i : ℕ) (x : m.Carrier) → ((y : m.Carrier) → Walks left (suc i) y)
        → walked m s left (suc i) d (falls m (λ l. step_within m s i l x) (d i) c) ≡ over m (fronted c (states s.top left)) (walked_if true i x)
    levels zero left i x walks = keeps_zero m m (walked m s left (suc i) d) (walked_plus left (suc i) d)
    levels (suc l) left i x walks =
        let walk : m.Carrier → m.Carrier = walked m s left (suc i) d in
        let here = cond (leb (d i) l) (step_at m s i l x) m.zero in
        let below = falls m (λ k. step_within m s i k x) (d i) l in
        walked_plus left (suc i) d here below
        ∙ ap (λ u. m.plus u (walk below)) (tested (leb (d i) l) left (suc i) (step_at m s i l x) (walks (step_at m s i l x)))
        ∙ ap (m.plus (over m (states s.top left) (λ st. walked_if true i x (l ∷ st)))) (levels l left i x walks)
        ∙ sym (over_fronted l (states s.top left) (walked_if true i x))

    walks : (left i : ℕ) (x : m.Carrier) → ((k : ℕ) → d k ≤ s.top) → Walks left i x
    walks zero i x within = sym (m.plus_zero x)
    walks (suc left) i x within =
        ap (walked m s left (suc i) d) (step_falls m s i (d i) x (within i)) ∙ levels (suc s.top) left i x (λ y. walks left (suc i) y within)

pub weight_over_states : (m : Model) (s : Setting) (d : Need) → ((i : ℕ) → d i ≤ s.top)
    → weight m s d ≡ over_states m s (λ x. cond (meets x d) (state_weight m s x) m.zero)
weight_over_states m s d within = walks m s d s.components 0 (m.start s.components) within
