-- What a sheet on the road answers, by its standing, and the reliability of a standing.
--
-- total          in any algebra, to a depth
-- ends           the exact ends of the bracket at a depth
-- reliability    how likely a warning is to arrive
-- found          the lowest place of a held need that is the same as a given one; nothing where there is none
use Rattle.std.specs.Prelude.{ℕ, List, map, ℤ, Option, MatchOption}
use Rattle.needs.specs.Levels.{Need}
use Rattle.clutters.specs.Clutters.{SameAt, Lowest}
use Rattle.algebras.specs.Model.{Model}
use Rattle.totals.specs.Choices.{Setting, setting, total}
use Rattle.inclusion_exclusion.specs.States.{counted_total}
use Rattle.inclusion_exclusion.specs.Reliability.{reliability}
use Rattle.brackets.specs.Brackets.{ends}
use Rattle.brackets.specs.declared.ends.Ends.{Ends}
use Rattle.sheets.specs.Standings.{Standing}

module _ {K : Type 0} (levels : K → Need) (top : ℕ) (s : Standing K) where
  abbrev pub setting_of : Setting
  setting_of = setting s.components s.card top

  abbrev pub needs_of : List Need
  needs_of = map levels s.needs

  abbrev pub road_total : (m : Model) → (depth : ℕ) → m.Carrier
  road_total m depth = total m setting_of depth needs_of

  -- the same, as a sum over states
  abbrev pub road_counted : (m : Model) → (depth : ℕ) → m.Carrier
  road_counted m depth = counted_total m setting_of depth needs_of

  abbrev pub road_ends : (depth : ℕ) → Ends
  road_ends depth = ends setting_of needs_of depth

  abbrev pub reliability_of : ℤ
  reliability_of = reliability setting_of needs_of

  abbrev pub Found : K → Option ℕ → Type 0
  Found d answer = MatchOption answer ((p : ℕ) → SameAt needs_of (levels d) p → ⊥) (Lowest (SameAt needs_of (levels d)))
