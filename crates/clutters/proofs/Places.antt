-- Needs by place, and the lowest place of one of which something is so, as `position` over the needs tells it. Assumes nothing.
use Rattle.std.proofs.Common.{◌≡◌, ℕ, zero, suc, ◌<◌, Bool, List, [], ◌∷◌, Option, Some, None, Iter, map, length, get_or, Decides, MatchOption, refl, sym, ap, ◌∙◌, arith}
use lib.ListN.{length-map}
use Rattle.std.proofs.lemmas.List.{get_or-map}
use denote.Ref.{Bor}
use denote.Param.Members.{Mut}
use Rattle.std.proofs.iter.Yields.{fronts}
use Rattle.std.specs.Fn.{Called}
use Rattle.std.specs.Iterator.{FindsPosition}
use Rattle.std.specs.List.{AllWithin, HoldsAt}
use Rattle.std.specs.Slice.Iter.{iter_rest}
use Rattle.std.proofs.lemmas.Bool.Decides.{not_from_Decides}
use Rattle.std.proofs.lemmas.Iterator.{IsFirst-from_position, YieldsList-from_slice}
use Rattle.needs.specs.Levels.{Need}
use Rattle.clutters.specs.Clutters.{At, Lowest}

module _ {K : Type 0} (levels : K → Need) where
  pub need_at : (xs : List K) (p : ℕ) (x : K) → p < length xs → x ≡ get_or xs p x → get_or (map levels xs) p (λ i. 0) ≡ levels x
  need_at xs p x h read = get_or-map levels xs p x (λ i. 0) h ∙ ap levels (sym read)

  -- what is so of the levels of an element is so of the need in its place
  so_at : (P : Need → Type 0) (xs : List K) (p : ℕ) → p < length xs → HoldsAt (λ x. P (levels x)) xs p → P (get_or (map levels xs) p (λ i. 0))
  so_at P [] p h holds = absurd (omega arith)
  so_at P (x ∷ xs) zero h holds = holds x
  so_at P (x ∷ xs) (suc p) h holds = so_at P xs p (omega arith) holds

  lowest_from_first : (So : Need → Type 0) (xs : List K) (r : Option ℕ)
      → MatchOption r (AllWithin (λ x. So (levels x) → ⊥) xs 0 (length xs)) (λ i. (i < length xs) × HoldsAt (λ x. So (levels x)) xs i × AllWithin (λ x. So (levels x) → ⊥) xs 0 i)
      → MatchOption r ((p : ℕ) → At So (map levels xs) p → ⊥) (Lowest (At So (map levels xs)))
  lowest_from_first So xs None none = λ p at.
      let within = simp length-map at at.0 in
      so_at (λ d. So d → ⊥) xs p within (λ x. none p x (omega arith) within) at.1
  lowest_from_first So xs (Some i) found = (
    (simp length-map found.0, so_at So xs i found.0 found.1),
    λ q less at. so_at (λ d. So d → ⊥) xs q (omega (arith, found.0)) (λ x. found.2 q x (omega arith) less) at.1,
  )

  -- each call of the test decides whether it is so of an element
  pub lowest_from_position : (So : Need → Type 0) (xs : List K) {F : Type 0} {g : Mut F (Bor K × Unit {0}) Bool} {s : Iter K} (u : Iter K) (f : F) (r : Option ℕ) → FindsPosition fronts g s f r u → iter_rest s ≡ xs
      → ((x : Bor K) (b : Bool) (q : F) → Called g f (x, tt) b q → (q ≡ f) × Decides b (So (levels x.now)))
      → MatchOption r ((p : ℕ) → At So (map levels xs) p → ⊥) (Lowest (At So (map levels xs)))
  lowest_from_position So xs u f r ran over test =
      lowest_from_first So xs r
      (IsFirst-from_position u f r (λ x. So (levels x)) (λ x. So (levels x) → ⊥) ran (YieldsList-from_slice xs over)
      (λ x q called. (test x _ q called).1.0 refl) (λ x q called. ((test x _ q called).0, not_from_Decides _ (test x _ q called).1 refl)))
