-- The book is kept from the calls alone: two books of one list of calls have equal pages. Assumes nothing.
use Rattle.std.proofs.Common.{◌≡◌, ℕ, zero, suc, ◌≤◌, ◌⊎◌, List, [], ◌∷◌, length, sym, ◌∙◌, subst, inl, inr, arith}
use Rattle.needs.specs.Levels.{Need}
use Rattle.algebras.specs.Model.{Model}
use Rattle.sheets.specs.Causes.{Accepted, First}
use Rattle.calls.specs.declared.call.Call.{Call}
use Rattle.calls.specs.declared.call.Call.TheVariants.{PutOut}
use Rattle.calls.specs.declared.answer.Answer.{Answer}
use Rattle.calls.specs.Book.{Page, taken_in, turned, causes_at, Step, elsewhere, refused, accepted}
use Rattle.calls.specs.Law.{Kept}
use Rattle.calls.proofs.Places.{in_place}

not_both : (cs : List (ℕ × Type 0)) (n : ℕ) → First cs n → Accepted cs → ⊥
not_both [] n first none = first
not_both (c ∷ cs) n (inl (holds, number)) (absent, none) = absent holds
not_both (c ∷ cs) n (inr (passed, first)) (absent, none) = not_both cs n first none

-- x is next where A holds, and else here
abbrev Picks : {X : Type 0} → Type 0 → (here next x : X) → Type 0
Picks A here next x = ((A → ⊥) × (x ≡ here)) ⊎ (A × (x ≡ next))

one_pick : {X A : Type 0} (here next x y : X) → Picks A here next x → Picks A here next y → x ≡ y
one_pick here next x y (inl (lacks, is)) (inl (lacks', is')) = is ∙ sym is'
one_pick here next x y (inl (lacks, is)) (inr (holds, is')) = absurd (lacks holds)
one_pick here next x y (inr (holds, is)) (inl (lacks, is')) = absurd (lacks holds)
one_pick here next x y (inr (holds, is)) (inr (holds', is')) = is ∙ sym is'

module _ {K V : Type 0} (levels : K → Need) (top : ℕ) (own : Model) (means : V → own.Carrier) where
  page_after : (c : Call K) (before : Page K) (a : Answer K V) (after : Page K) → Step levels top own means c before a after
      → Picks ((taken_in c ≡ before.side) × Accepted (causes_at levels top own means before c)) before (turned top c before) after
  page_after c before a after (elsewhere side is same) = inl (λ both. side both.0, same)
  page_after c before a after (refused side e cause told is same) = inl (λ both. not_both _ _ cause both.1, same)
  page_after c before a after (accepted side none answers is) = inr ((side, none), is)

  pub one_book : (places : List K) (calls : List (Call K)) (answers answers' : List (Answer K V)) (book book' : ℕ → Page K)
      → Kept levels top own means places calls answers book → Kept levels top own means places calls answers' book' → (p : ℕ) → p ≤ length calls → book p ≡ book' p
  one_book places calls answers answers' book book' kept kept' zero within = kept.opens ∙ sym kept'.opens
  one_book places calls answers answers' book book' kept kept' (suc p) within =
      let call = in_place calls p PutOut (omega arith) in
      let c = call.0 in
      let turn = kept.turns p c call.1 in
      let turn' = kept'.turns p c call.1 in
      let here = one_book places calls answers answers' book book' kept kept' p (omega arith) in
      let step' = subst (λ b. Step levels top own means c b turn'.0 (book' (suc p))) (sym here) turn'.1 in
      one_pick (book p) (turned top c (book p)) (book (suc p)) (book' (suc p)) (page_after c (book p) turn.0 (book (suc p)) turn.1) (page_after c (book p) turn'.0 (book' (suc p)) step')
