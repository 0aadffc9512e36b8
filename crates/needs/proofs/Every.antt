-- What `all` over the numbers below n decides. Assumes nothing.
use Rattle.std.proofs.Common.{ℕ, ◌<◌, ◌≡◌, Bool, true, false, Decides, length, refl, sym, subst, get_or, arith, rules}
use Rattle.std.specs.Bool.{MatchBool}
use Rattle.std.specs.Fn.{Called}
use Rattle.std.specs.Iterator.{ChecksAll}
use Rattle.std.specs.List.{AllWithin, HoldsAt, range_with_len}
use Rattle.std.proofs.iter.Yields.{nat_range_steps}
use Rattle.std.proofs.lemmas.Iterator.{cases_from_all, YieldsList-from_range}
use Rattle.std.proofs.lemmas.List.FromFn.{length-range_with_len, get_or-range_with_len}
use Rattle.std.specs.declared.ops.Range.{Range}
use denote.Param.Members.{Mut}

module _ (P : ℕ → Type 0) (n : ℕ) where
  at : (i : ℕ) → i < n → get_or (range_with_len 0 n) i 0 ≡ i
  at i below = omega (arith, get_or-range_with_len 0 n i 0 below)

  by_cases : (r : Bool)
      → MatchBool r (AllWithin P (range_with_len 0 n) 0 (length (range_with_len 0 n)))
      ((k : ℕ) × (k < length (range_with_len 0 n)) × HoldsAt (λ i. P i → ⊥) (range_with_len 0 n) k)
      → Decides r ((i : ℕ) → i < n → P i)
  by_cases true all =
      (λ _ i below. subst P (at i below) (all i 0 (omega arith) (omega (arith, length-range_with_len 0 n))), λ _. refl)
  by_cases false (k, short, fails) =
      let below : k < n = omega (arith, length-range_with_len 0 n) in
      (search rules, λ every. absurd (fails 0 (subst P (sym (at k below)) (every k below))))

  pub decides_below : {F : Type 0} {g : Mut F (ℕ × Unit {0}) Bool} {s : Range ℕ} (u : Range ℕ) (f : F) (r : Bool)
      → s ≡ record { start = 0; end = n } → ChecksAll nat_range_steps g s f r u
      → ((i : ℕ) (q : F) → Called g f (i, tt) true q → (q ≡ f) × P i)
      → ((i : ℕ) (q : F) → Called g f (i, tt) false q → P i → ⊥)
      → Decides r ((i : ℕ) → i < n → P i)
  decides_below u f r range ran passes fails =
      by_cases r (cases_from_all u f r P (λ i. P i → ⊥) ran (YieldsList-from_range 0 n n range (omega arith)) passes fails)
