-- What the reader answers, over the bytes of the file.
--
-- fault      the refusal, the record at fault counted from 0, and the byte where that record begins or should begin
use Rattle.std.specs.Prelude.{◌≡◌, ℕ, ◌+◌, ◌<◌, List, ◌++◌, length, codes}
use Rattle.sheets.specs.Standings.{Standing}
use Rattle.sheets.specs.Refusals.{number, place}
use Rattle.sheet_file.specs.Layout.{Form}
use Rattle.sheet_file.specs.Reading.{Front, WrongHead, WrongRecord}
use Rattle.sheet_file.specs.declared.fault.Fault.{Fault}

module _ {K : Type 0} (f : Form K) (storage : List K) (bytes : List ℕ) where
  -- the file is a front and the end
  pub data Read : (threshold : ℕ) → Standing K → List K → Type 0 where
    whole : {front : List ℕ} {records t : ℕ} {s : Standing K} {places : List K} → Front f storage front records t s places → bytes ≡ front ++ codes "EN" → Read t s places

  -- a longest front, and what is wrong behind it; with the storage that the front leads to
  pub data Faulty : Fault → List K → Type 0 where
    at_head : {e : Fault} → WrongHead f bytes (number e.refusal) → e.record ≡ 0 → e.byte ≡ 0 → Faulty e storage
    at_record : {e : Fault} {front : List ℕ} (rest : List ℕ) {records t : ℕ} {s : Standing K} {places : List K} → Front f storage front records t s places → bytes ≡ front ++ rest
        → WrongRecord f s places rest (number e.refusal) (place e.refusal) → e.record ≡ records → e.byte ≡ length front → Faulty e places
    behind_end : {e : Fault} {front : List ℕ} (rest : List ℕ) {records t : ℕ} {s : Standing K} {places : List K} → Front f storage front records t s places → bytes ≡ front ++ (codes "EN" ++ rest) → 0 < length rest
        → number e.refusal ≡ 14 → e.record ≡ records + 1 → e.byte ≡ length front + 2 → Faulty e places
