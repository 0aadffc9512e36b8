-- How far a file has been read: a front, and the bytes behind it. Assumes nothing.
use Rattle.std.proofs.Common.{◌≡◌, ℕ, ◌+◌, ◌-◌, ◌≤◌, List, ◌++◌, length, sym, ap, ◌∙◌, subst, append_assoc, arith, length-append}
use Rattle.sheets.specs.Standings.{Standing}
use Rattle.sheet_file.specs.declared.fault.Fault.{Fault}
use Rattle.sheet_file.specs.Faults.{Faulty}
use Rattle.sheet_file.specs.Layout.{Form}
use Rattle.sheet_file.specs.Reading.{Front}
use Rattle.sheet_file.specs.Reading.Front.{begun, weighed, fit}
use Rattle.sheet_file.specs.Steps.{Longer}

module _ {K : Type 0} (f : Form K) (storage : List K) (input : List ℕ) where
  pub record Reached (rest : List ℕ) (records t : ℕ) (s : Standing K) (places : List K) : Type 0 where
    pub front : List ℕ
    pub split : input ≡ front ++ rest
    pub good : Front f storage front records t s places

-- a front has no more records than bytes
front_counts : {K : Type 0} {f : Form K} {storage : List K} {bytes : List ℕ} {records t : ℕ} {s : Standing K} {places : List K} → Front f storage bytes records t s places → records ≤ length bytes
front_counts (begun spelt sized small) = let long = ap length spelt.2 in omega arith
front_counts (weighed {bytes} {more} front spelt accepted) =
    let before = front_counts front in
    let long = ap length spelt.1 in
    simp length-append (omega arith)
front_counts (fit {bytes} {more} front spelt accepted) =
    let before = front_counts front in
    let long = ap length spelt.1 in
    simp length-append (omega arith)

module _ {K : Type 0} {f : Form K} {storage : List K} {input : List ℕ} where
  -- the byte where the rest begins
  pub reached_byte : {rest : List ℕ} {records t : ℕ} {s : Standing K} {places : List K} → (h : Reached f storage input rest records t s places) → length input - length rest ≡ length h.front
  reached_byte {rest} h = let long = ap length h.split ∙ length-append h.front rest in omega arith

  pub reached_more : {rest more next : List ℕ} {records t : ℕ} {s s' : Standing K} {places places' : List K} → Reached f storage input rest records t s places
      → rest ≡ more ++ next → Longer f more s places s' places' → Reached f storage input next (records + 1) t s' places'
  reached_more {rest} {more} {next} {records} {t} h cut longer =
      record {
        front = h.front ++ more;
        split = h.split ∙ ap (λ xs. h.front ++ xs) cut ∙ sym (append_assoc h.front more next);
        good = longer storage h.front records t h.good;
      }

  -- no more records were read than there are bytes
  pub reached_few : {rest : List ℕ} {records t : ℕ} {s : Standing K} {places : List K} → Reached f storage input rest records t s places → records + length rest ≤ length input
  reached_few {rest} h = let long = ap length h.split ∙ length-append h.front rest in let counted = front_counts h.good in omega arith

-- the same fault and storage, by an equal storage at the start
pub faulty_from : {K : Type 0} {f : Form K} {first storage : List K} {input : List ℕ} {e : Fault} {places : List K} → first ≡ storage → Faulty f first input e places → Faulty f storage input e places
faulty_from {K} {f} {first} {storage} {input} {e} {places} same fault = subst (λ (st : List K). Faulty f st input e places) same fault
