-- One record more: what its bytes do to every front that they follow.
--
-- longer     any front that leads to the first standing and storage, with these bytes behind it, is a front that leads to the second
use Rattle.std.specs.Prelude.{ℕ, ◌+◌, List, ◌++◌}
use Rattle.sheets.specs.Standings.{Standing}
use Rattle.sheet_file.specs.Layout.{Form}
use Rattle.sheet_file.specs.Reading.{Front}

abbrev pub Longer : {K : Type 0} → Form K → (more : List ℕ) → Standing K → List K → Standing K → List K → Type 0
Longer {K} f more s places s' places' =
    (storage : List K) (bytes : List ℕ) (records t : ℕ) → Front f storage bytes records t s places → Front f storage (bytes ++ more) (records + 1) t s' places'
