-- Sums and multiples of whole numbers over a list. Assumes nothing.
use Rattle.std.proofs.Common.{◌≡◌, ℕ, zero, suc, ◌+◌, ◌-◌, ◌*◌, ◌≤◌, List, [], ◌∷◌, ℤ, pos, negsuc, ◌+ℤ◌, ◌-ℤ◌, neg_ℤ, ◌≤ℤ◌, sym, refl, ap, ◌∙◌, suc-mul, add_comm, zero-mul, arith}
use borrow.Author.Differences.{up, down}
use lib.IntN.{+ℤ_idl}
use Rattle.std.proofs.lemmas.Int.{ints}
use Rattle.inclusion_exclusion.specs.States.{times}
use Rattle.inclusion_exclusion.specs.WholeNumbers.{exact_model}
use Rattle.inclusion_exclusion.proofs.Laws.{times_plus, times_minus, over}
use Rattle.inclusion_exclusion.proofs.Naturals.{summed}

pub times_pos : (k w : ℕ) → times exact_model (pos k) (pos w) ≡ pos (k * w)
times_pos zero w = ap pos (sym (zero-mul w))
times_pos (suc k) w = ap (λ z. pos w +ℤ z) (times_pos k w) ∙ ap pos (add_comm w (k * w) ∙ sym (suc-mul k w))

pub times_neg : (k w : ℕ) → times exact_model (neg_ℤ (pos k)) (pos w) ≡ neg_ℤ (pos (k * w))
times_neg k w =
    ap (λ z. times exact_model z (pos w)) (sym (+ℤ_idl (neg_ℤ (pos k))))
    ∙ times_minus exact_model (pos 0) (pos k) (pos w)
    ∙ ap (λ z. pos 0 -ℤ z) (times_pos k w)
    ∙ +ℤ_idl (neg_ℤ (pos (k * w)))

pub times_both : (z x y : ℤ) → times exact_model z (x +ℤ y) ≡ times exact_model z x +ℤ times exact_model z y
times_both (pos zero) x y = refl
times_both (pos (suc k)) x y = let before = times_both (pos k) x y in omega (arith, ints)
times_both (negsuc zero) x y = omega (arith, ints)
times_both (negsuc (suc k)) x y = let before = times_both (negsuc k) x y in omega (arith, ints)

-- more times a number that is not negative
pub times_monotone : (y z : ℤ) (w : ℕ) → y ≤ℤ z → times exact_model y (pos w) ≤ℤ times exact_model z (pos w)
times_monotone y z w h =
    let k = up z + down y - (up y + down z) in
    let sum : y +ℤ pos k ≡ z = omega (arith, ints) in
    let split : times exact_model z (pos w) ≡ times exact_model y (pos w) +ℤ pos (k * w)
    = ap (λ v. times exact_model v (pos w)) (sym sum) ∙ times_plus exact_model y (pos k) (pos w) ∙ ap (λ v. times exact_model y (pos w) +ℤ v) (times_pos k w) in
    omega (arith, ints)

module _ {X : Type 0} where
  pub summed_monotone : (xs : List X) (f g : X → ℕ) → ((x : X) → f x ≤ g x) → summed xs f ≤ summed xs g
  summed_monotone [] f g h = omega arith
  summed_monotone (x ∷ xs) f g h = omega (arith, h x, summed_monotone xs f g h)

  pub over_pos : (xs : List X) (f : X → ℕ) → over exact_model xs (λ x. pos (f x)) ≡ pos (summed xs f)
  over_pos [] f = refl
  over_pos (x ∷ xs) f = ap (λ z. pos (f x) +ℤ z) (over_pos xs f)

  pub over_monotone : (xs : List X) (f g : X → ℤ) → ((x : X) → f x ≤ℤ g x) → over exact_model xs f ≤ℤ over exact_model xs g
  over_monotone [] f g h = omega (arith, ints)
  over_monotone (x ∷ xs) f g h = omega (arith, ints, h x, over_monotone xs f g h)
