-- What a sheet's types keep is what the theorems on totals, brackets and changes ask for. Assumes nothing.
use Rattle.std.proofs.Common.{ℕ, ◌≤◌, List, [], ◌∷◌, map, length, replicate, get_or, ◌≤ℤ◌, sym, subst, arith}
use lib.ListN.{length-map}
use Rattle.std.proofs.lemmas.List.{map-append, length-take-le}
use Rattle.needs.specs.Levels.{Need}
use Rattle.needs.specs.declared.Kind.{Ghosts}
use Rattle.weights.specs.Chances.{Falling, trimmed}
use Rattle.weights.proofs.Falling.{trimmed_falling, set_falling}
use Rattle.inclusion_exclusion.specs.States.{Within}
use Rattle.inclusion_exclusion.specs.Reliability.{Proper, Bounded, reliability}
use Rattle.inclusion_exclusion.specs.Bonferroni.{Bracketed, Judged}
use Rattle.inclusion_exclusion.proofs.Bounds.{totals_bound_reliability}
use Rattle.inclusion_exclusion.proofs.Bonferroni.{bracketed, judged}
use Rattle.inclusion_exclusion.proofs.Monotonicity.{fits_raise, strikes_lower}
use Rattle.sheets.specs.declared.sheet.Sheet.{Sheet}
use Rattle.sheets.specs.Standings.{Standing, fitted, struck, weighted}
use Rattle.sheets.specs.Sheets.{standing}
use Rattle.sheets.specs.Answers.{setting_of, needs_of, reliability_of}
use Rattle.sheets.specs.declared.supposed.Supposed.{Supposed}
use Rattle.sheets.specs.Tries.{weight_of, tried}
use Rattle.sheets.proofs.Struck.{map_one_less}
use Rattle.sheets.proofs.Measured.{alike_falls}

module _ {K : Type 0} {kind : Ghosts K} (x : Sheet K kind) where
  held_few : length (standing x).needs ≤ 12
  held_few = omega (arith, length-take-le x.needs.held x.needs.places.now x.needs.within, x.needs.few)

module _ {K : Type 0} (levels : K → Need) (top : ℕ) where
  pub within : ((d : K) (i : ℕ) → levels d i ≤ top) → (ds : List K) → Within top (map levels ds)
  within most [] = tt
  within most (d ∷ ds) = (most d, within most ds)

  pub proper : (s : Standing K) → top ≤ 3 → s.components ≤ 8 → ((i : ℕ) → Falling 3 (get_or s.card i [])) → Proper (setting_of levels top s)
  proper s low few falling = record { few = few; falling = λ i l h. falling i l (omega arith) }

  module _ (low : top ≤ 3) (most : (d : K) (i : ℕ) → levels d i ≤ top) where
    pub bounded : (s : Standing K) → length s.needs ≤ 12 → s.components ≤ 8 → ((i : ℕ) → Falling 3 (get_or s.card i [])) → Bounded (setting_of levels top s) (needs_of levels top s)
    bounded s few known falling =
        totals_bound_reliability (setting_of levels top s) (needs_of levels top s) (proper s low known falling) (within most s.needs) (omega (arith, length-map s.needs levels))

    -- a sheet's standing with another row for one component
    pub weighted_bracketed : {kind : Ghosts K} (x : Sheet K kind) (i : ℕ) (row : List ℕ) → Falling top row
        → let s = weighted top i row (standing x) in Bracketed (setting_of levels top s) (needs_of levels top s)
    weighted_bracketed x i row falls =
        let s = weighted top i row (standing x) in
        bracketed _ _ (bounded s (held_few x) x.most (set_falling x.card.rows i (trimmed top row) 3 x.falling (trimmed_falling top row falls 3)))

  pub fit_raises : (s : Standing K) (d : K) → Proper (setting_of levels top s) → reliability_of levels top s ≤ℤ reliability_of levels top (fitted d s)
  fit_raises s d is-proper =
      subst (λ ds. reliability_of levels top s ≤ℤ reliability (setting_of levels top s) ds) (sym (map-append levels s.needs (d ∷ [])))
      (fits_raise (setting_of levels top s) (needs_of levels top s) (levels d) is-proper)

  pub strike_lowers : (s : Standing K) (p : ℕ) → Proper (setting_of levels top s) → reliability_of levels top (struck p s) ≤ℤ reliability_of levels top s
  strike_lowers s p is-proper =
      subst (λ ds. reliability (setting_of levels top s) ds ≤ℤ reliability_of levels top s) (sym (map_one_less levels s.needs p))
      (strikes_lower (setting_of levels top s) (needs_of levels top s) p is-proper)

module _ {K : Type 0} {kind : Ghosts K} (x : Sheet K kind) where
  pub sheet_proper : kind.TOP ≤ 3 → Proper (setting_of kind.levels kind.TOP (standing x))
  sheet_proper low = proper kind.levels kind.TOP (standing x) low x.most x.falling

  module _ (low : kind.TOP ≤ 3) (most : (d : K) (i : ℕ) → kind.levels d i ≤ kind.TOP) where
    pub sheet_bounded : Bounded (setting_of kind.levels kind.TOP (standing x)) (needs_of kind.levels kind.TOP (standing x))
    sheet_bounded = bounded kind.levels kind.TOP low most (standing x) (held_few x) x.most x.falling

    pub sheet_bracketed : Bracketed (setting_of kind.levels kind.TOP (standing x)) (needs_of kind.levels kind.TOP (standing x))
    sheet_bracketed = bracketed _ _ sheet_bounded

    pub sheet_judged : Judged (setting_of kind.levels kind.TOP (standing x)) (needs_of kind.levels kind.TOP (standing x))
    sheet_judged = judged _ _ sheet_bounded

    -- with one component dead or sure
    pub tried_bracketed : (i : ℕ) (what : Supposed) → let s = tried kind.TOP i what (standing x) in Bracketed (setting_of kind.levels kind.TOP s) (needs_of kind.levels kind.TOP s)
    tried_bracketed i what = weighted_bracketed kind.levels kind.TOP low most x i (replicate 3 (weight_of what)) (alike_falls kind.TOP what low)
