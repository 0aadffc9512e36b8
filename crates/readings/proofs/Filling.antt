-- A row of zeros that is filled with the weights of readings, from level 1 up. Assumes nothing.
use Rattle.std.proofs.Common.{◌≡◌, ℕ, zero, suc, ◌<◌, ◌≤◌, false, List, [], ◌∷◌, map, length, get_or, replicate, min, pos, sym, refl, ap, ◌∙◌, subst, inl, inr, arith}
use lib.Ieee.{Float, nan, fin}
use Rattle.std.proofs.lemmas.List.{length-map, get_or_default, get_or_past}
use Rattle.std.proofs.lemmas.Bool.{cases_lt}
use Rattle.weights.specs.Chances.{trimmed}
use Rattle.readings.specs.Readings.{IsChance, AreChances, sixty_fourths}

-- ---- a row trimmed to no level, and to every level

trimmed_none : (row : List ℕ) → trimmed 0 row ≡ replicate (length row) 0
trimmed_none [] = refl
trimmed_none (w ∷ row) = ap (λ r. 0 ∷ r) (trimmed_none row)

trimmed_all : (row : List ℕ) (k : ℕ) → length row ≤ k → trimmed k row ≡ row
trimmed_all [] k h = refl
trimmed_all (w ∷ row) zero h = absurd (omega arith)
trimmed_all (w ∷ row) (suc k) h = ap (λ r. w ∷ r) (trimmed_all row k (omega arith))

-- ---- the walk along the readings

-- as it comes to a place: the readings before it are chances, and their weights stand there; from there on stand zeros
pub record Filled (readings : List Float) (place : ℕ) (row : List ℕ) : Type 0 where
  pub chances : (l : ℕ) → l < place → IsChance (get_or readings l (fin false 0 (pos 0)))
  pub filled : row ≡ trimmed place (map sixty_fourths readings)

pub filled_none : (readings : List Float) → Filled readings 0 (replicate (length readings) 0)
filled_none readings =
    record {
      chances = λ l h. absurd (omega arith);
      filled = ap (λ n. replicate n 0) (sym (length-map readings sixty_fourths)) ∙ sym (trimmed_none (map sixty_fourths readings));
    }

-- at the last reading that is read; one that is missing counts as 0
pub filled_all : {readings : List Float} {place : ℕ} {row : List ℕ} (top : ℕ) → Filled readings place row → place ≡ min (length readings) top → AreChances top readings × (row ≡ trimmed top (map sixty_fourths readings))
filled_all {readings} {place} top so_far done =
    let weights = map sixty_fourths readings in (
      λ l under. elim (cases_lt l (length readings)) [
        | inl within ↦ so_far.chances l (omega arith)
        | inr past ↦ subst IsChance (sym (get_or_past readings l (fin false 0 (pos 0)) past)) (λ _. refl, omega arith)
      ],
      so_far.filled ∙ elim (cases_lt top (length readings)) [
        | inl within ↦ ap (λ k. trimmed k weights) (omega arith)
        | inr past ↦ trimmed_all weights place (omega (arith, length-map readings sixty_fourths)) ∙ sym (trimmed_all weights top (omega (arith, length-map readings sixty_fourths)))
      ],
    )

pub not_all : (top : ℕ) (readings : List Float) (place : ℕ) → (IsChance (get_or readings place nan) → ⊥) → place < length readings → place < top → AreChances top readings → ⊥
not_all top readings place no-chance within under chances = no-chance (subst IsChance (get_or_default readings place (fin false 0 (pos 0)) nan within) (chances place under))
