-- The exact reliability of a sheet, and where its totals lie beside it.
--
-- reliability    the sum, in the fixed algebra and read as signed, of the weights of the states in which a warning arrives; 2^48 is certainty
-- totals         by depth, in the fixed algebra, read as signed
-- proper         a setting of at most 8 components, whose weights never rise up to the top and never pass 64
use Rattle.std.specs.Prelude.{◌≡◌, ℕ, ◌%◌, ◌^◌, ◌≤◌, cond, List, [], length, ℤ, pos, ◌≤ℤ◌, slice_index_or}
use Rattle.needs.specs.Levels.{Need}
use Rattle.weights.specs.Chances.{Falling}
use Rattle.algebras.specs.Model.{Model}
use Rattle.algebras.specs.Residues.{signed}
use Rattle.algebras.specs.Models.{fixed_model}
use Rattle.totals.specs.Choices.{Setting, total}
use Rattle.inclusion_exclusion.specs.States.{arrives, state_weight, over_states, Within}
use Rattle.inclusion_exclusion.specs.WholeNumbers.{exact_model}

-- the weights of the states in which a warning arrives, added up
abbrev pub arriving : (m : Model) → Setting → List Need → m.Carrier
arriving m s ds = over_states m s (λ x. cond (arrives x ds) (state_weight m s x) m.zero)

abbrev pub reliability : Setting → List Need → ℤ
reliability s ds = signed (arriving fixed_model s ds)

abbrev pub totals : Setting → List Need → (depth : ℕ) → ℤ
totals s ds depth = signed (total fixed_model s depth ds)

pub record Proper (s : Setting) : Type 0 where
  pub few : s.components ≤ 8
  pub falling : (i : ℕ) → Falling s.top (slice_index_or s.card i [])

-- totals by depth that lie around a number from 0 to certainty: below it at even depths, above it at odd ones, and on it at full depth
pub record Around (t : ℕ → ℤ) (e : ℤ) (held : ℕ) : Type 0 where
  pub least : pos 0 ≤ℤ e
  pub most : e ≤ℤ pos (2 ^ 48)
  pub even : (depth : ℕ) → depth % 2 ≡ 0 → t depth ≤ℤ e
  pub odd : (depth : ℕ) → depth % 2 ≡ 1 → e ≤ℤ t depth
  pub full : (depth : ℕ) → held ≤ depth → t depth ≡ e

-- the signed readings of totals and reliability are what whole numbers give
pub record Bounded (s : Setting) (ds : List Need) : Type 0 where
  pub around : Around (totals s ds) (reliability s ds) (length ds)
  pub exact : (depth : ℕ) → totals s ds depth ≡ total exact_model s depth ds
  pub whole : reliability s ds ≡ arriving exact_model s ds

abbrev pub TotalsBoundReliability : Type 0
TotalsBoundReliability = (s : Setting) (ds : List Need) → Proper s → Within s.top ds → length ds ≤ 12 → Bounded s ds
