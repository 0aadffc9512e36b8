-- What reading a sheet file comes to: the accepted records one after another, and what may be wrong behind them.
--
-- front      whole records from the start of the file, all accepted, with the threshold, the standing and the storage they lead to
-- rest       the bytes behind a front
-- head       the ts record, which opens a file; what may be wrong with it is looked at in the order of the cases
use Rattle.std.specs.Prelude.{◌≡◌, ℕ, ◌+◌, ◌*◌, ◌<◌, ◌≤◌, List, ◌++◌, map, length, take, None, codes, Option, ◌≢◌, slice_set}
use Rattle.sheets.specs.Standings.{Standing, capacity, opened, sized, weighted, fitted}
use Rattle.sheets.specs.Causes.{Call, causes, Accepted, First, Outside, ToldPlace}
use Rattle.sheets.specs.Causes.Call.{set as set_call, fit as fit_call}
use Rattle.sheet_file.specs.Layout.{Form, Spells}
use Rattle.sheet_file.specs.Layout.Record.{ts, wt, nd}

module _ {K : Type 0} (f : Form K) where
  -- the causes of a call's refusal, by what a front leads to
  abbrev pub causes_at : Standing K → List K → Call K → List (ℕ × Type 0)
  causes_at s storage = causes f.levels f.top (capacity storage) s

  pub data Front (storage : List K) : (bytes : List ℕ) (records threshold : ℕ) → Standing K → List K → Type 0 where
    begun : {bytes : List ℕ} {n t : ℕ} → Spells f (ts f.kind n t) bytes → (Outside 1 8 n → ⊥) → t ≤ 32768
        → Front storage bytes 1 t (sized n opened) storage
    weighed : {bytes more : List ℕ} {records t i : ℕ} {row : List ℕ} {s : Standing K} {places : List K} → Front storage bytes records t s places
        → Spells f (wt i row) more → Accepted (causes_at s places (set_call i row))
        → Front storage (bytes ++ more) (records + 1) t (weighted f.top i row s) places
    fit : {bytes more : List ℕ} {records t : ℕ} {d : K} {s : Standing K} {places : List K} → Front storage bytes records t s places
        → Spells f (nd d) more → Accepted (causes_at s places (fit_call d))
        → Front storage (bytes ++ more) (records + 1) t (fitted d s) (slice_set places (length s.needs) d)

  -- the number of what is wrong with the head
  pub data WrongHead (bytes : List ℕ) : ℕ → Type 0 where
    missing : length bytes < 2 → WrongHead bytes 13
    unmarked : 2 ≤ length bytes → (take 2 bytes ≢ codes "TS") → WrongHead bytes 12
    cut : take 2 bytes ≡ codes "TS" → length bytes < 6 → WrongHead bytes 13
    other_kind : (head rest : List ℕ) (kind n t : ℕ) → bytes ≡ head ++ rest → Spells f (ts kind n t) head → (kind ≢ f.kind) → WrongHead bytes 12
    bad_size : (head rest : List ℕ) (n t : ℕ) → bytes ≡ head ++ rest → Spells f (ts f.kind n t) head → Outside 1 8 n → WrongHead bytes 10
    bad_threshold : (head rest : List ℕ) (n t : ℕ) → bytes ≡ head ++ rest → Spells f (ts f.kind n t) head → (Outside 1 8 n → ⊥) → 32768 < t → WrongHead bytes 9

  -- the number of what is wrong with the record behind a front, and the place that goes with it
  pub data WrongRecord (s : Standing K) (places : List K) (rest : List ℕ) : ℕ → Option ℕ → Type 0 where
    missing : length rest < 2 → WrongRecord s places rest 13 None
    unmarked : 2 ≤ length rest → (take 2 rest ≢ codes "WT") → (take 2 rest ≢ codes "ND") → (take 2 rest ≢ codes "EN") → WrongRecord s places rest 12 None
    weights_cut : take 2 rest ≡ codes "WT" → length rest < 3 + 2 * f.top → WrongRecord s places rest 13 None
    need_cut : take 2 rest ≡ codes "ND" → length rest < 2 + f.width → WrongRecord s places rest 13 None
    weights_refused : (bytes more : List ℕ) (i : ℕ) (row : List ℕ) {n : ℕ} → rest ≡ bytes ++ more → Spells f (wt i row) bytes → First (causes_at s places (set_call i row)) n
        → WrongRecord s places rest n None
    need_refused : (bytes more : List ℕ) (d : K) {n : ℕ} {p : Option ℕ} → rest ≡ bytes ++ more → Spells f (nd d) bytes → First (causes_at s places (fit_call d)) n
        → ToldPlace (map f.levels s.needs) (f.levels d) p → WrongRecord s places rest n p
