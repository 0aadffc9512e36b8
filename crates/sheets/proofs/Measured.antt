-- Rows that are set by readings or for a try: trimming makes no difference up to the top, and equal weights fall. Assumes nothing.
use Rattle.std.proofs.Common.{◌≡◌, ℕ, zero, suc, ◌≤◌, List, [], ◌∷◌, map, set, replicate, Option, Some, MatchOption, Ok, Err, Result, Float, ap, subst, inl, inr, arith}
use Rattle.weights.specs.Chances.{Falling, trimmed}
use Rattle.weights.proofs.Rows.{weight_trimmed, trimmed_trimmed}
use Rattle.readings.specs.Readings.{AreChances, sixty_fourths}
use Rattle.inclusion_exclusion.specs.Changes.{Raises, Lowers}
use Rattle.sheets.specs.declared.refusal.Refusal.{Refusal}
use Rattle.sheets.specs.declared.supposed.Supposed.{Supposed}
use Rattle.sheets.specs.declared.supposed.Supposed.TheVariants.{Dead, Sure}
use Rattle.sheets.specs.Standings.{Standing, weighted}
use Rattle.sheets.specs.Sheets.{Outcome}
use Rattle.sheets.specs.Tries.{weight_of}

module _ (top : ℕ) (row : List ℕ) where
  trimmed_falls : Falling top row → Falling top (trimmed top row)
  trimmed_falls falls l h = omega (arith, falls l h, weight_trimmed top row (suc l) (omega arith), weight_trimmed top row l (omega arith))

  falls_trimmed : Falling top (trimmed top row) → Falling top row
  falls_trimmed falls l h = omega (arith, falls l h, weight_trimmed top row (suc l) (omega arith), weight_trimmed top row l (omega arith))

  pub raises_trimmed : (old : List ℕ) → Raises top old row → Raises top old (trimmed top row)
  raises_trimmed old up l h = omega (arith, up l h, weight_trimmed top row l h)

  pub lowers_trimmed : (old : List ℕ) → Lowers top old row → Lowers top old (trimmed top row)
  lowers_trimmed old down l h = omega (arith, down l h, weight_trimmed top row l h)

  -- the causes of a set, behind those of the readings that gave the row
  pub behind_readings : {T : Type 0} (r : Result T Refusal) (Unknown Chances : Type 0) → Chances
      → Outcome r ((1, Unknown) ∷ (2, Falling top (trimmed top row) → ⊥) ∷ []) → Outcome r ((1, Unknown) ∷ (3, Chances → ⊥) ∷ (2, Falling top row → ⊥) ∷ [])
  behind_readings (Ok x) Unknown Chances chances (known, (falls, end)) = (known, (λ none. none chances, (λ rises. falls (λ f. rises (falls_trimmed f)), end)))
  behind_readings (Err e) Unknown Chances chances (inl unknown) = inl unknown
  behind_readings (Err e) Unknown Chances chances (inr (known, inl (rises, number))) = inr (known, inr (λ none. none chances, inl (λ f. rises (trimmed_falls f), number)))
  behind_readings (Err e) Unknown Chances chances (inr (known, inr (falls, none))) = absurd none

-- the row that readings gave
pub row_read : (readings : List Float) (top' top : ℕ) (read : Option (List ℕ)) (row : List ℕ)
    → MatchOption read (AreChances top' readings → ⊥) (λ r. AreChances top' readings × (r ≡ trimmed top' (map sixty_fourths readings)))
    → read ≡ Some row → top' ≡ top → AreChances top readings × (row ≡ trimmed top (map sixty_fourths readings))
row_read readings top' top read row answer is top_is =
    subst (λ t. AreChances t readings × (row ≡ trimmed t (map sixty_fourths readings))) top_is
    (subst (λ o. MatchOption o (AreChances top' readings → ⊥) (λ r. AreChances top' readings × (r ≡ trimmed top' (map sixty_fourths readings)))) is answer)

pub weighted_trimmed : {K : Type 0} (top i : ℕ) (row : List ℕ) (s : Standing K) → weighted top i (trimmed top row) s ≡ weighted top i row s
weighted_trimmed top i row s = ap (λ r. record { needs = s.needs; components = s.components; card = set s.card i r }) (trimmed_trimmed top row)

pub alike_falls : (top : ℕ) (what : Supposed) → top ≤ 3 → Falling top (replicate 3 (weight_of what))
alike_falls top what low zero h = certain what
  where
    certain : (what : Supposed) → weight_of what ≤ 64
    certain Dead = omega arith
    certain Sure = omega arith
alike_falls top what low (suc zero) h = omega arith
alike_falls top what low (suc (suc zero)) h = omega arith
alike_falls top what low (suc (suc (suc l))) h = absurd (omega arith)
