-- Arrays of residues as polynomials. Assumes nothing.
use Rattle.std.proofs.Common.{◌≡◌, ℕ, zero, suc, ◌+◌, ◌-◌, ◌<◌, ◌≤◌, List, [], ◌∷◌, ◌++◌, length, take, drop, replicate, refl, ap, ◌∙◌, sym, subst, inl, inr, ⊎_elim, append-nil, length-append, length-drop, arith}
use borrow.Rule.Slice.PartMut.{put_mid}
use lib.ListN.{length-replicate}
use Rattle.std.specs.Array.{IsFromFnResult, IsFromFnResultFrom}
use Rattle.std.specs.Fn.{Called}
use denote.Param.Members.{Mut}
use mathlib.Core.Path.{fun_ext}
use Rattle.std.proofs.lemmas.List.{get_or_past, get_or_append_left, get_or-append_right, get_or-take, take-replicate, drop_all, length-take-le}
use Rattle.std.proofs.lemmas.Bool.{and_from, and_left, and_right, cases_lt, cond-false, cond-true, le-leb, lt-leb}
use Rattle.algebras.specs.Residues.{Number, number}
use Rattle.algebras.specs.ResidueLaws.{same_number}
use Rattle.algebras.specs.Models.{Polynomials, one, shifted}
use Rattle.algebras.specs.Meanings.{meaning, coefficients}
use Rattle.algebras.specs.declared.residue.Residue.{Residue}

abbrev pub at : List Residue → Polynomials
at xs = coefficients (record { of = xs })

pub at_past : (xs : List Residue) (k : ℕ) → length xs ≤ k → at xs k ≡ number 0
at_past xs k h = ap meaning (get_or_past xs k _ h)

-- where two arrays have both ended, an operation that keeps 0
pub at_past_both : (op : Number → Number → Number) (xs ys : List Residue) → (op (number 0) (number 0)).value ≡ 0 → (k : ℕ) → length xs ≤ k → length ys ≤ k → op (at xs k) (at ys k) ≡ number 0
at_past_both op xs ys zeros k h e = rw (at_past xs k h, at_past ys k e) (same_number zeros)

-- places that all hold 0, and the same after a 1 at place 0
pub at_zeros : (n : ℕ) (z : Residue) → meaning z ≡ number 0 → (k : ℕ) → at (replicate n z) k ≡ number 0
at_zeros zero z h k = refl
at_zeros (suc n) z h zero = h
at_zeros (suc n) z h (suc k) = at_zeros n z h k

pub at_one : (n : ℕ) (x z : Residue) → meaning x ≡ number 1 → meaning z ≡ number 0 → (k : ℕ) → at (x ∷ replicate n z) k ≡ one k
at_one n x z h e zero = h
at_one n x z h e (suc k) = at_zeros n z e k

-- an array that calls of a closure made, each of which left the closure as it was: the polynomial whose coefficients they gave
module _ {F : Type 0} (g : Mut F (ℕ × Unit {0}) Residue) (goal : Polynomials) (f : F) (xs : List Residue) (gives : (k : ℕ) (x : Residue) (f' : F) → k < 25 → Called g f (k, tt) x f' → (meaning x ≡ goal k) × (f' ≡ f)) where
  made_from : (n i : ℕ) (s : F) → s ≡ f → i + n ≤ 25 → IsFromFnResultFrom g s xs i n → (k : ℕ) → i ≤ k → k < i + n → at xs k ≡ goal k
  made_from zero i s same within made k low high = absurd (omega arith)
  made_from (suc n) i s same within (q, y, here, call, rest) k low high =
      let gave = gives i y q (omega arith) (subst (λ s. Called g s (i, tt) y q) same call) in
      ⊎_elim
      (λ less. made_from n (i + 1) q gave.1 (omega arith) rest k (omega arith) (omega arith))
      (λ h. subst (λ j. at xs j ≡ goal j) (let e : i ≡ k = omega arith in e) (ap meaning (here.1 _) ∙ gave.0))
      (cases_lt i k)

  pub made : IsFromFnResult g f xs 25 → ((k : ℕ) → 25 ≤ k → goal k ≡ number 0) → at xs ≡ goal
  made m past = fun_ext (λ k. ⊎_elim (made_from 25 0 f refl (omega arith) m.each k (omega arith)) (λ h. at_past xs k (omega (arith, m.long)) ∙ sym (past k h)) (cases_lt k 25))

-- a shift by l: what comes to the places below l, from l to 24, and above
module _ (l : ℕ) (f : Polynomials) (k : ℕ) where
  pub shifted_low : k < l → shifted l f k ≡ number 0
  shifted_low h = cond-false _ _ _ (and_left _ _ (lt-leb l k h))

  pub shifted_kept : l ≤ k → k < 25 → shifted l f k ≡ f (k - l)
  shifted_kept h within = cond-true _ _ _ (and_from _ _ (le-leb l k h) (le-leb k 24 (omega arith)))

  pub shifted_past : 25 ≤ k → shifted l f k ≡ number 0
  shifted_past h = cond-false _ _ _ (and_right _ _ (lt-leb k 24 (omega arith)))

-- as many coefficients as stay below the 25th, copied into zeros from the last place down: the polynomial shifted by l
module _ (l kept : ℕ) (z : Residue) (vs : List Residue) (none : meaning z ≡ number 0) (long : length vs ≡ 25) (fits : kept ≡ 25 - l) where
  moved_whole : length (replicate (25 - kept) z ++ take kept vs) ≡ 25
  moved_whole = omega (arith, length-append (replicate (25 - kept) z) (take kept vs), length-replicate (25 - kept) z, length-take-le kept vs (omega arith))

  moved_at : (k : ℕ) → at (replicate (25 - kept) z ++ take kept vs) k ≡ shifted l (at vs) k
  moved_at k = elim (cases_lt k (25 - kept)) [
    | inl low ↦
        ap meaning (get_or_append_left (replicate (25 - kept) z) (take kept vs) _ k (omega (arith, length-replicate (25 - kept) z)))
        ∙ at_zeros (25 - kept) z none k
        ∙ sym (shifted_low l (at vs) k (omega arith))
    | inr high ↦ elim (cases_lt k 25) [
      | inl within ↦
          let back : k - (25 - kept) ≡ k - l = omega arith in
          ap meaning (get_or-append_right (replicate (25 - kept) z) (take kept vs) (25 - kept) k _ (length-replicate (25 - kept) z) (omega arith) ∙ get_or-take kept vs (k - (25 - kept)) _ (omega arith))
          ∙ ap (at vs) back
          ∙ sym (shifted_kept l (at vs) k (omega arith) within)
      | inr past ↦ at_past (replicate (25 - kept) z ++ take kept vs) k (omega (arith, moved_whole)) ∙ sym (shifted_past l (at vs) k (omega arith))
    ]
  ]

  pub moved : (ys : List Residue) → ys ≡ take kept vs → at (put_mid (25 - kept) (25 - (25 - kept)) (replicate 25 z) ys) ≡ shifted l (at vs)
  moved ys copied =
      let front : take (25 - kept) (replicate 25 z) ≡ replicate (25 - kept) z = take-replicate (25 - kept) 25 z (omega arith) in
      let behind : drop (25 - (25 - kept)) (drop (25 - kept) (replicate 25 z)) ≡ [] = drop_all _ (drop (25 - kept) (replicate 25 z)) (omega (arith, length-drop (25 - kept) (replicate 25 z), length-replicate 25 z)) in
      ap at (ap (λ xs. xs ++ (ys ++ drop (25 - (25 - kept)) (drop (25 - kept) (replicate 25 z)))) front ∙ ap (λ xs. replicate (25 - kept) z ++ (ys ++ xs)) behind ∙ ap (λ xs. replicate (25 - kept) z ++ xs) (append-nil ys ∙ copied))
      ∙ fun_ext moved_at
