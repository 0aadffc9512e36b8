-- What `find` answers over the whole numbers from the top down to 0, where its closure computes a test. Assumes nothing.
use Rattle.std.proofs.Common.{◌≡◌, ℕ, ◌+◌, ◌-◌, ◌<◌, ◌≤◌, Bool, true, false, Option, Some, None, MatchOption, sym, ap, ◌∙◌, subst, inl, inr, arith}
use lib.Dec.{leb}
use Rattle.std.proofs.lemmas.Bool.{cases_lt, leb-true, leb-false}
use denote.Ref.{Bor}
use denote.Param.Members.{Mut}
use Rattle.std.specs.Bool.{IsTrue}
use Rattle.std.specs.Fn.{CalledAt}
use Rattle.std.specs.Option.{IfSome, IsSomeAnd}
use Rattle.std.specs.Iterator.Runs.{Run, CallKeepsClosure, IsIdenticalRun, ItemsCountDown, NoItemPasses, EndsAtFirstPassing}
use Rattle.std.proofs.lemmas.Iterator.Adapters.{option_map_id}

-- the largest number up to the top that passes, or none that does
abbrev pub Largest : (ℕ → Bool) → ℕ → Option ℕ → Type 0
Largest test top r = MatchOption r ((v : ℕ) → v ≤ top → test v ≡ false) (λ w. (w ≤ top) × (test w ≡ true) × ((v : ℕ) → w < v → v ≤ top → test v ≡ false))

some_same : (v w : ℕ) → Some v ≡ Some w → v ≡ w
some_same v w e = cc

module _ {S T F : Type 0} {steps : S → Option ℕ → S → Type 0} {others : T → Option ℕ → T → Type 0} (g : Mut F (Bor ℕ × Unit {0}) Bool) (f : F) (test : ℕ → Bool) (u : Run steps) (b : Run others) (top low high : ℕ) (from : low ≡ 0) (to : high ≡ top + 1) (same : IsIdenticalRun u b) (down : ItemsCountDown b low high) (keeps : CallKeepsClosure g f) (decides : (x : ℕ) (b : Bool) (q : F) → CalledAt g f x b q → b ≡ test x) where
  place : (v : ℕ) → v ≤ top → top - v < u.len → u.at (top - v) ≡ Some v
  place v h within = sym (same.0.2 (top - v)) ∙ sym (option_map_id (b.at (top - v))) ∙ down.3 (top - v) (omega (arith, same.0.0)) ∙ ap Some (omega arith)

  pub largest_from_find : (r : Option ℕ) → MatchOption r (IsTrue u.whole × NoItemPasses u g f) (EndsAtFirstPassing u g f) → Largest test top r
  largest_from_find None none = λ v h.
      let within : top - v < u.len = omega (arith, same.0.0, down.1 (same.1 ∙ none.0)) in
      let at : CalledAt g f v false f = subst (λ o. IfSome o (λ x. CalledAt g f x false f)) (place v h within) (none.1 keeps (top - v)) in
      sym (decides v false f at)
  largest_from_find (Some w) found =
      let i = found.0 in
      let long : u.len ≡ i + 1 = found.1 in
      let calls = found.3 keeps in
      let is : Some w ≡ Some (high - 1 - i) = sym found.2 ∙ sym (same.0.2 i) ∙ sym (option_map_id (b.at i)) ∙ down.3 i (omega (arith, same.0.0)) in
      let here : w ≡ high - 1 - i = some_same w _ is in
      let most : u.len ≤ top + 1 = omega (arith, same.0.0, down.0) in (
        omega arith,
        sym (decides w true f calls.0),
        λ v above h.
            let at : CalledAt g f v false f = subst (λ o. IsSomeAnd o (λ x. CalledAt g f x false f)) (place v h (omega arith)) (calls.1 (top - v) (omega arith)) in
            sym (decides v false f at),
      )

-- where the numbers that pass are those up to n
pub largest_is : (test : ℕ → Bool) (top n : ℕ) → n ≤ top → ((v : ℕ) → v ≤ top → test v ≡ leb v n) → (r : Option ℕ) → Largest test top r → r ≡ Some n
largest_is test top n h up_to None none = absurd (omega (arith, leb-false _ _ (sym (up_to 0 (omega arith)) ∙ none 0 (omega arith))))
largest_is test top n h up_to (Some w) found =
    let low : w ≤ n = leb-true _ _ (sym (up_to w found.0) ∙ found.1) in
    elim (cases_lt w n) [
      | inl less ↦ absurd (omega (arith, leb-false _ _ (sym (up_to n h) ∙ found.2 n less h)))
      | inr no_less ↦ ap Some (omega arith)
    ]
