-- The head that stands first in a list of bytes: what may be wrong with it, and the front that it begins. Assumes nothing.
use Rattle.std.proofs.Common.{◌≡◌, ℕ, ◌<◌, ◌≤◌, List, ◌∷◌, ◌++◌, length, get_or, codes, refl, ap, ◌∙◌, inl, inr, arith}
use Rattle.std.specs.List.{between}
use Rattle.sheets.specs.Standings.{Standing, opened, sized}
use Rattle.sheets.specs.Causes.{First, Outside}
use Rattle.sheets.specs.Causes.Call.{size as size_call}
use Rattle.sheet_file.specs.Layout.{Form, big_endian}
use Rattle.sheet_file.specs.Layout.Record.{ts}
use Rattle.sheet_file.specs.Reading.{Front, WrongHead, causes_at}
use Rattle.sheet_file.specs.Reading.Front.{begun}
use Rattle.sheet_file.specs.Reading.WrongHead.{cut, other_kind, bad_size, bad_threshold}
use Rattle.sheet_file.proofs.Fronts.{elements, first_elements}
use Rattle.sheet_file.proofs.Records.{behind, Marked, take_marks, length_marks, Stands, stands, leads}

-- the bytes behind the head, as a slice pattern gives them
abbrev pub behind_head : List ℕ → List ℕ
behind_head bytes = between 4 (length (behind bytes)) (behind bytes)

-- the head's fields, one by one
abbrev pub HeadBehind : (bytes : List ℕ) → (kind n t : ℕ) → Type 0
HeadBehind bytes kind n t = (4 ≤ length (behind bytes)) × (get_or (behind bytes) 0 0 ≡ kind) × (n ≡ get_or (behind bytes) 1 0) × (t ≡ big_endian (elements 2 2 (behind bytes)))

head_stands : {K : Type 0} (f : Form K) (bytes : List ℕ) (kind n t : ℕ) → Marked (codes "TS") bytes → HeadBehind bytes kind n t → Stands f (ts kind n t) bytes (behind_head bytes)
head_stands f bytes kind n t m (long, first, second, filed) =
    stands f bytes (ts kind n t) (kind ∷ n ∷ elements 2 2 (behind bytes)) m (rw (← first, second) (first_elements 4 (behind bytes) long))
    (get_or (behind bytes) 2 0, get_or (behind bytes) 3 0, refl, filed)

module _ {K : Type 0} {f : Form K} {bytes : List ℕ} (m : Marked (codes "TS") bytes) where
  pub head_short : length (behind bytes) < 4 → WrongHead f bytes 13
  head_short short = cut (take_marks bytes m) (omega (arith, length_marks bytes m))

  pub head_other : {kind n t : ℕ} → HeadBehind bytes kind n t → (kind ≡ f.kind → ⊥) → WrongHead f bytes 12
  head_other {kind} {n} {t} fields other =
      let there = head_stands f bytes kind n t m fields in
      other_kind there.0 (behind_head bytes) kind n t there.1 there.3 other

  module _ {n t : ℕ} (fields : HeadBehind bytes f.kind n t) where
    -- a sheet as opened is refused a size for the size alone
    pub size_wrong : {s : Standing K} (places : List K) (k : ℕ) → s ≡ opened → First (causes_at f s places (size_call n)) k → WrongHead f bytes k
    size_wrong places k fresh (inl (outside, e)) =
        let there = head_stands f bytes f.kind n t m fields in
        rw e (bad_size there.0 (behind_head bytes) n t there.1 there.3 outside)
    size_wrong places k fresh (inr (inside, inl (held, e))) = absurd (omega (arith, ap (λ s. length s.needs) fresh))
    size_wrong places k fresh (inr (inside, inr (empty, none))) = absurd none

    pub threshold_wrong : (Outside 1 8 n → ⊥) → 32768 < t → WrongHead f bytes 9
    threshold_wrong inside above =
        let there = head_stands f bytes f.kind n t m fields in
        bad_threshold there.0 (behind_head bytes) n t there.1 there.3 inside above

    pub head_begins : {s s' : Standing K} {storage storage' : List K} → (Outside 1 8 n → ⊥) → t ≤ 32768 → s' ≡ sized n s → s ≡ opened → storage' ≡ storage
        → (head : List ℕ) × (bytes ≡ head ++ behind_head bytes) × Front f storage head 1 t s' storage'
    head_begins inside within e fresh h =
        let there = head_stands f bytes f.kind n t m fields in
        (there.0, there.1, leads f (begun there.3 inside within) (e ∙ ap (sized n) fresh) h)
