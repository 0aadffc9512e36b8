-- The steps of a component at its levels, one less the next, add up to one step. Assumes nothing.
use Rattle.std.proofs.Common.{◌≡◌, ℕ, zero, suc, ◌≤◌, min, cond, leb, sym, ap, ◌∙◌, arith}
use Rattle.std.proofs.lemmas.Bool.{leb-true, leb-false, le-leb, lt-leb, cond-true, cond-false, cond_both}
use Rattle.weights.specs.Chances.{chance}
use Rattle.algebras.specs.Model.{Model}
use Rattle.totals.specs.Choices.{Setting}
use Rattle.totals.proofs.Groups.{zero_plus, cancel}
use Rattle.inclusion_exclusion.specs.States.{step_within}

module _ (m : Model) (f : ℕ → m.Carrier) where
  -- the value at each level from d on, below a bound, less that at the next level
  abbrev pub falls : (level bound : ℕ) → m.Carrier
  falls d zero = m.zero
  falls d (suc l) = m.plus (cond (leb d l) (m.minus (f l) (f (suc l))) m.zero) (falls d l)

  telescoped : (d c : ℕ) → m.plus (falls d c) (f c) ≡ f (min d c)
  telescoped d zero = zero_plus m (f zero) ∙ ap f {x = zero} {y = min d zero} (omega arith)
  telescoped d (suc l) =
      let here = f l in
      let next = f (suc l) in
      let below = falls d l in
      let before = telescoped d l in
      cond_both (leb d l) (m.minus here next) m.zero (λ u. m.plus (m.plus u below) next ≡ f (min d (suc l)))
      (λ yes. let le = leb-true d l yes in
      ap (λ u. m.plus u next) (m.plus_comm (m.minus here next) below) ∙ m.plus_assoc below (m.minus here next) next
      ∙ ap (m.plus below) (m.minus_plus here next) ∙ before ∙ ap f {x = min d l} {y = min d (suc l)} (omega arith))
      (λ no. let lt = leb-false d l no in
      ap (λ u. m.plus u next) (zero_plus m below ∙ cancel m below m.zero here (before ∙ ap f {x = min d l} {y = l} (omega arith) ∙ sym (zero_plus m here)))
      ∙ zero_plus m next ∙ ap f {x = suc l} {y = min d (suc l)} (omega arith))

-- the step at a level is what the levels from there up to the top add up to
pub step_falls : (m : Model) (s : Setting) (i d : ℕ) (x : m.Carrier) → d ≤ s.top
    → m.step (chance s.card) s.top i d x ≡ falls m (λ l. step_within m s i l x) d (suc s.top)
step_falls m s i d x within =
    let step : ℕ → m.Carrier = λ l. m.step (chance s.card) s.top i l x in
    let f : ℕ → m.Carrier = λ l. step_within m s i l x in
    let all = falls m f d (suc s.top) in
    sym (sym (m.plus_zero all)
    ∙ ap (m.plus all) (sym (cond-false (leb (suc s.top) s.top) (step (suc s.top)) m.zero (lt-leb (suc s.top) s.top (omega arith))))
    ∙ telescoped m f d (suc s.top)
    ∙ ap f {x = min d (suc s.top)} {y = d} (omega arith)
    ∙ cond-true (leb d s.top) (step d) m.zero (le-leb d s.top within))
