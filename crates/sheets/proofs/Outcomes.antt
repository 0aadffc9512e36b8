-- Outcomes by the table of causes, and what a fit, a strike and a set make of a sheet. Assumes nothing.
use Rattle.std.proofs.Common.{◌≡◌, ℕ, ◌+◌, ◌-◌, ◌<◌, ◌≤◌, cond, List, [], ◌∷◌, map, length, get_or, take, set, ℤ, ◌≤ℤ◌, is_ok, Ok, Err, Result, sym, ap, ◌∙◌, subst, inr, arith}
use mathlib.Core.Logic.{∥∥₁_map}
use lib.Signed.{≤ℤ_refl}
use Rattle.std.proofs.lemmas.List.{length-take-le, take_more_set}
use Rattle.needs.specs.declared.Kind.{Ghosts}
use Rattle.sheets.specs.declared.refusal.Refusal.{Refusal}
use Rattle.sheets.specs.declared.clutter.Clutter.{Clutter}
use Rattle.sheets.specs.declared.sheet.Sheet.{Sheet}
use Rattle.sheets.specs.Standings.{Standing, standing_of, capacity, fitted, struck, struck_storage}
use Rattle.sheets.specs.Causes.{AsksFrom, clutter_causes, Accepted}
use Rattle.sheets.specs.Causes.Call.{fit, strike, set as set_row}
use Rattle.sheets.specs.Settled.{Settled}
use Rattle.sheets.specs.Sheets.{held, standing, storage, sheet_causes, sheet_reliability, Outcome}
use Rattle.sheets.specs.Answers.{setting_of, needs_of, reliability_of}
use Rattle.weights.specs.Chances.{Falling, trimmed}
use Rattle.weights.proofs.Falling.{trimmed_falling, set_falling as rows_falling}
use Rattle.inclusion_exclusion.specs.Changes.{Raises, Lowers, Follows}
use Rattle.inclusion_exclusion.proofs.Monotonicity.{sets_follow_weights}
use Rattle.sheets.proofs.Held.{held_length}
use Rattle.sheets.proofs.Struck.{struck_needs}
use Rattle.sheets.proofs.Settled.{fitted_settled, struck_settled, weighted_settled}
use Rattle.sheets.proofs.Reliable.{sheet_proper, fit_raises, strike_lowers}

-- a cause that does not hold leaves the outcome to those behind it
pub passes : {T : Type 0} (r : Result T Refusal) (c : ℕ × Type 0) (cs : List (ℕ × Type 0)) → (c.1 → ⊥) → Outcome r cs → Outcome r (c ∷ cs)
passes (Ok x) c cs absent rest = (absent, rest)
passes (Err e) c cs absent rest = inr (absent, rest)

-- what holds after an accepted call, and held before it, holds after the call
pub by_outcome : {T X : Type 0} (P : X → Type 0) (r : Result T Refusal) (cs : List (ℕ × Type 0)) (before next after : X) → Outcome r cs → after ≡ cond (is_ok r) next before
    → (Accepted cs → P next) → P before → P after
by_outcome P (Ok x) cs before next after accepted is there here = subst P (sym is) (there accepted)
by_outcome P (Err e) cs before next after refused is there here = subst P (sym is) here

module _ {K : Type 0} {kind : Ghosts K} (x : Sheet K kind) where
  -- the standing with another clutter
  abbrev with_needs : Clutter K kind → Standing K
  with_needs c = standing_of c.held c.places.now x.components x.card.rows

  abbrev held_as : List K → Standing K
  held_as ds = record { needs = ds; components = x.components; card = x.card.rows }

  holding : {ds es : List K} → ds ≡ es → held_as ds ≡ held_as es
  holding same = ap held_as same

  -- a fit
  module _ (d : K) (r : Result ℕ Refusal) (c : Clutter K kind)
      (no_other : AsksFrom x.components (kind.levels d) → ⊥) (some : (AsksFrom 0 (kind.levels d) → ⊥) → ⊥)
      (outcome : Outcome r (clutter_causes (map kind.levels (held x.needs)) (capacity (storage x)) (kind.levels d)))
      (counted : c.held ≡ cond (is_ok r) (x.needs.held + 1) x.needs.held)
      (written : c.places.now ≡ cond (is_ok r) (set (storage x) x.needs.held d) (storage x)) where
    fit_refused : Outcome r (sheet_causes kind x (fit d))
    fit_refused =
        let behind = clutter_causes (map kind.levels (held x.needs)) (capacity (storage x)) (kind.levels d) in
        passes r (1, AsksFrom x.components (kind.levels d)) ((4, AsksFrom 0 (kind.levels d) → ⊥) ∷ behind) no_other (passes r (4, AsksFrom 0 (kind.levels d) → ⊥) behind some outcome)

    fit_standing : with_needs c ≡ cond (is_ok r) (fitted d (standing x)) (standing x)
    fit_standing = ap (λ k. standing_of k c.places.now x.components x.card.rows) counted ∙ after r outcome written
      where
        after : (r : Result ℕ Refusal) → Outcome r (clutter_causes (map kind.levels (held x.needs)) (capacity (storage x)) (kind.levels d))
            → c.places.now ≡ cond (is_ok r) (set (storage x) x.needs.held d) (storage x)
            → standing_of (cond (is_ok r) (x.needs.held + 1) x.needs.held) c.places.now x.components x.card.rows ≡ cond (is_ok r) (fitted d (standing x)) (standing x)
        after (Ok p) accepted written =
            let long = held_length kind.levels x.needs.held (storage x) x.needs.within in
            let least = accepted.1.0 in
            let room : x.needs.held < length (storage x) = omega arith in
            holding (ap (take (x.needs.held + 1)) written ∙ take_more_set (storage x) x.needs.held d room)
        after (Err e) refused written = holding (ap (take x.needs.held) written)

    pub fit_settled : ∥ Settled kind.levels kind.TOP (with_needs c) ∥₁
    fit_settled =
        by_outcome (λ s. ∥ Settled kind.levels kind.TOP s ∥₁) r (sheet_causes kind x (fit d)) (standing x) (fitted d (standing x)) (with_needs c) fit_refused fit_standing
        (λ accepted. ∥∥₁_map x.settled (fitted_settled kind.levels kind.TOP (capacity (storage x)) (standing x) d accepted)) x.settled

    pub fit_never_lowers : kind.TOP ≤ 3 → sheet_reliability kind x ≤ℤ reliability_of kind.levels kind.TOP (with_needs c)
    fit_never_lowers low =
        by_outcome (λ s. sheet_reliability kind x ≤ℤ reliability_of kind.levels kind.TOP s) r (sheet_causes kind x (fit d)) (standing x) (fitted d (standing x)) (with_needs c) fit_refused fit_standing
        (λ _. fit_raises kind.levels kind.TOP (standing x) d (sheet_proper x low)) (≤ℤ_refl (sheet_reliability kind x))

  -- a strike
  module _ (p : ℕ) (r : Result K Refusal) (c : Clutter K kind)
      (outcome : Outcome r ((7, x.needs.held ≤ p) ∷ []))
      (counted : c.held ≡ cond (is_ok r) (x.needs.held - 1) x.needs.held)
      (written : c.places.now ≡ cond (is_ok r) (struck_storage x.needs.held p (storage x)) (storage x)) where
    long : x.needs.held ≡ length (held x.needs)
    long = sym (length-take-le x.needs.held (storage x) x.needs.within)

    strike_refused : Outcome r (sheet_causes kind x (strike p))
    strike_refused = subst (λ n. Outcome r ((7, n ≤ p) ∷ [])) long outcome

    strike_standing : with_needs c ≡ cond (is_ok r) (struck p (standing x)) (standing x)
    strike_standing = ap (λ k. standing_of k c.places.now x.components x.card.rows) counted ∙ after r outcome written
      where
        after : (r : Result K Refusal) → Outcome r ((7, x.needs.held ≤ p) ∷ [])
            → c.places.now ≡ cond (is_ok r) (struck_storage x.needs.held p (storage x)) (storage x)
            → standing_of (cond (is_ok r) (x.needs.held - 1) x.needs.held) c.places.now x.components x.card.rows ≡ cond (is_ok r) (struck p (standing x)) (standing x)
        after (Ok d) (here, rest) written = holding (ap (take (x.needs.held - 1)) written ∙ struck_needs (storage x) x.needs.held p x.needs.within (omega arith))
        after (Err e) refused written = holding (ap (take x.needs.held) written)

    pub strike_settled : ∥ Settled kind.levels kind.TOP (with_needs c) ∥₁
    strike_settled =
        by_outcome (λ s. ∥ Settled kind.levels kind.TOP s ∥₁) r (sheet_causes kind x (strike p)) (standing x) (struck p (standing x)) (with_needs c) strike_refused strike_standing
        (λ accepted. ∥∥₁_map x.settled (struck_settled kind.levels kind.TOP (capacity (storage x)) (standing x) p accepted)) x.settled

    pub strike_never_raises : kind.TOP ≤ 3 → reliability_of kind.levels kind.TOP (with_needs c) ≤ℤ sheet_reliability kind x
    strike_never_raises low =
        by_outcome (λ s. reliability_of kind.levels kind.TOP s ≤ℤ sheet_reliability kind x) r (sheet_causes kind x (strike p)) (standing x) (struck p (standing x)) (with_needs c) strike_refused strike_standing
        (λ _. strike_lowers kind.levels kind.TOP (standing x) p (sheet_proper x low)) (≤ℤ_refl (sheet_reliability kind x))

  -- a set that is accepted
  abbrev set_reliability : List (List ℕ) → ℤ
  set_reliability rows = reliability_of kind.levels kind.TOP (standing_of x.needs.held (storage x) x.components rows)

  module _ (row : List ℕ) {i top' : ℕ} {row' : List ℕ} {card : List (List ℕ)} (known : i < x.components) (top_is : top' ≡ kind.TOP) (falls' : Falling top' row)
      (kept : row' ≡ trimmed top' row) (after : card ≡ set x.card.rows i row') where
    falls : Falling kind.TOP row
    falls = subst (λ t. Falling t row) top_is falls'

    written : card ≡ set x.card.rows i (trimmed kind.TOP row)
    written = subst (λ t. card ≡ set x.card.rows i (trimmed t row)) top_is (subst (λ r. card ≡ set x.card.rows i r) kept after)

    pub set_falling : (j : ℕ) → Falling 3 (get_or card j [])
    set_falling =
        subst (λ (rows : List (List ℕ)). (j : ℕ) → Falling 3 (get_or rows j [])) (sym written)
        (rows_falling x.card.rows i (trimmed kind.TOP row) 3 x.falling (trimmed_falling kind.TOP row falls 3))

    pub set_settled : ∥ Settled kind.levels kind.TOP (standing_of x.needs.held (storage x) x.components card) ∥₁
    set_settled =
        let accepted : Accepted (sheet_causes kind x (set_row i row)) = (λ past. omega (arith, past, known), (λ rises. rises falls, tt)) in
        subst (λ rows. ∥ Settled kind.levels kind.TOP (standing_of x.needs.held (storage x) x.components rows) ∥₁) (sym written)
        (∥∥₁_map x.settled (weighted_settled kind.levels kind.TOP (capacity (storage x)) (standing x) i row accepted))

    module _ (low : kind.TOP ≤ 3) where
      follows : Follows (setting_of kind.levels kind.TOP (standing x)) i row (needs_of kind.levels kind.TOP (standing x))
      follows = sets_follow_weights (setting_of kind.levels kind.TOP (standing x)) i row (needs_of kind.levels kind.TOP (standing x)) (sheet_proper x low) falls

      pub set_raises : Raises kind.TOP (get_or x.card.rows i []) row → sheet_reliability kind x ≤ℤ set_reliability card
      set_raises up = subst (λ rows. sheet_reliability kind x ≤ℤ set_reliability rows) (sym written) (follows.raised up)

      pub set_lowers : Lowers kind.TOP (get_or x.card.rows i []) row → set_reliability card ≤ℤ sheet_reliability kind x
      set_lowers down = subst (λ rows. set_reliability rows ≤ℤ sheet_reliability kind x) (sym written) (follows.lowered down)
