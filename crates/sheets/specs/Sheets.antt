-- A sheet's standing and storage, read from the code's own types, and what a call answers by the table of causes.
--
-- storage        what the lent places hold, all of them; of a sheet in the bay, and of one on the road, that of the sheet in it
-- outcome        accepted where no cause holds, else refused with the number of the first that does
-- reliability    of what the sheet holds: how likely a warning is to arrive
use Rattle.std.specs.Prelude.{ℕ, List, take, ℤ, Ok, Err, Result}
use Rattle.needs.specs.declared.Kind.{Ghosts}
use Rattle.sheets.specs.Standings.{Standing, standing_of, capacity}
use Rattle.sheets.specs.Causes.{Call, causes, Accepted, First}
use Rattle.sheets.specs.Refusals.{number}
use Rattle.sheets.specs.Answers.{reliability_of}
use Rattle.sheets.specs.declared.refusal.Refusal.{Refusal}
use Rattle.sheets.specs.declared.clutter.Clutter.{Clutter}
use Rattle.sheets.specs.declared.sheet.Sheet.{Sheet}
use Rattle.sheets.specs.declared.bay.BaySheet.{BaySheet}
use Rattle.sheets.specs.declared.road.RoadSheet.{RoadSheet}

abbrev pub Outcome : {T : Type 0} → Result T Refusal → List (ℕ × Type 0) → Type 0
Outcome (Ok x) cs = Accepted cs
Outcome (Err e) cs = First cs (number e)

module _ {K : Type 0} {kind : Ghosts K} where
  abbrev pub held : Clutter K kind → List K
  held c = take c.held c.places.now

  abbrev pub storage : Sheet K kind → List K
  storage s = s.needs.places.now

  abbrev pub standing : Sheet K kind → Standing K
  standing s = standing_of s.needs.held s.needs.places.now s.components s.card.rows

  abbrev pub bay_storage : BaySheet K kind → List K
  bay_storage s = storage s.sheet

  abbrev pub road_storage : RoadSheet K kind → List K
  road_storage s = storage s.sheet

  abbrev pub bay_standing : BaySheet K kind → Standing K
  bay_standing s = standing s.sheet

  abbrev pub road_standing : RoadSheet K kind → Standing K
  road_standing s = standing s.sheet

module _ {K : Type 0} (kind : Ghosts K) where
  -- the causes of a call's refusal, by what the sheet holds
  abbrev pub sheet_causes : Sheet K kind → Call K → List (ℕ × Type 0)
  sheet_causes s = causes kind.levels kind.TOP (capacity (storage s)) (standing s)

  abbrev pub bay_causes : BaySheet K kind → Call K → List (ℕ × Type 0)
  bay_causes s = sheet_causes s.sheet

  abbrev pub road_causes : RoadSheet K kind → Call K → List (ℕ × Type 0)
  road_causes s = sheet_causes s.sheet

  abbrev pub sheet_reliability : Sheet K kind → ℤ
  sheet_reliability s = reliability_of kind.levels kind.TOP (standing s)

  abbrev pub bay_reliability : BaySheet K kind → ℤ
  bay_reliability s = sheet_reliability s.sheet

  abbrev pub road_reliability : RoadSheet K kind → ℤ
  road_reliability s = sheet_reliability s.sheet
