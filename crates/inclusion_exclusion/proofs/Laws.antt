-- Sums over a list, multiples, and maps that keep sums, from the laws of an algebra alone. Assumes nothing.
use Rattle.std.proofs.Common.{◌≡◌, zero, suc, List, [], ◌∷◌, map, ℤ, pos, negsuc, ◌+ℤ◌, ◌-ℤ◌, sym, refl, ap, ◌∙◌}
use mathlib.Core.Path.{fun_ext}
use lib.IntN.{suc_ℤ, suc_ℤ-+ℤ, +ℤ_idl, -ℤ-+ℤ_cancel}
use Rattle.algebras.specs.Model.{Model}
use Rattle.totals.specs.Choices.{added}
use Rattle.totals.proofs.Groups.{zero_plus, cancel, minus_from, interchange}
use Rattle.inclusion_exclusion.specs.States.{times}

module _ (m : Model) where
  times_suc : (z : ℤ) (x : m.Carrier) → times m (suc_ℤ z) x ≡ m.plus x (times m z x)
  times_suc (pos n) x = refl
  times_suc (negsuc zero) x = sym (m.plus_comm x (m.minus m.zero x) ∙ m.minus_plus m.zero x)
  times_suc (negsuc (suc n)) x = sym (m.plus_comm x (m.minus (times m (negsuc n) x) x) ∙ m.minus_plus (times m (negsuc n) x) x)

  -- one more of the first number is one x more on both sides
  module _ (x : m.Carrier) (y z : ℤ) where
    sum_suc : times m (suc_ℤ y +ℤ z) x ≡ m.plus x (times m (y +ℤ z) x)
    sum_suc = ap (λ k. times m k x) (suc_ℤ-+ℤ y z) ∙ times_suc (y +ℤ z) x

    plus_suc : m.plus (times m (suc_ℤ y) x) (times m z x) ≡ m.plus x (m.plus (times m y x) (times m z x))
    plus_suc = ap (λ u. m.plus u (times m z x)) (times_suc y x) ∙ m.plus_assoc x (times m y x) (times m z x)

    abbrev Sums : Type 0
    Sums = times m (y +ℤ z) x ≡ m.plus (times m y x) (times m z x)

  sums_up : (x : m.Carrier) (y z : ℤ) → Sums x y z → Sums x (suc_ℤ y) z
  sums_up x y z h = sum_suc x y z ∙ ap (m.plus x) h ∙ sym (plus_suc x y z)

  sums_down : (x : m.Carrier) (y z : ℤ) → Sums x (suc_ℤ y) z → Sums x y z
  sums_down x y z h =
      let a = times m (y +ℤ z) x in
      let b = m.plus (times m y x) (times m z x) in
      cancel m a b x (m.plus_comm a x ∙ sym (sum_suc x y z) ∙ h ∙ plus_suc x y z ∙ m.plus_comm x b)

  none_plus : (z : ℤ) (x : m.Carrier) → Sums x (pos zero) z
  none_plus z x = ap (λ k. times m k x) (+ℤ_idl z) ∙ sym (zero_plus m (times m z x))

  pub times_plus : (y z : ℤ) (x : m.Carrier) → times m (y +ℤ z) x ≡ m.plus (times m y x) (times m z x)
  times_plus (pos zero) z x = none_plus z x
  times_plus (pos (suc n)) z x = sums_up x (pos n) z (times_plus (pos n) z x)
  times_plus (negsuc zero) z x = sums_down x (negsuc zero) z (none_plus z x)
  times_plus (negsuc (suc n)) z x = sums_down x (negsuc (suc n)) z (times_plus (negsuc n) z x)

  pub times_minus : (y z : ℤ) (x : m.Carrier) → times m (y -ℤ z) x ≡ m.minus (times m y x) (times m z x)
  times_minus y z x =
      minus_from m (times m y x) (times m z x) (times m (y -ℤ z) x) (sym (times_plus (y -ℤ z) z x) ∙ ap (λ k. times m k x) (-ℤ-+ℤ_cancel y z))

module _ (m : Model) {X : Type 0} where
  abbrev pub over : List X → (X → m.Carrier) → m.Carrier
  over xs f = added m (map f xs)

  pub over_plus : (xs : List X) (f g : X → m.Carrier) → over xs (λ x. m.plus (f x) (g x)) ≡ m.plus (over xs f) (over xs g)
  over_plus [] f g = sym (m.plus_zero m.zero)
  over_plus (x ∷ xs) f g = ap (m.plus (m.plus (f x) (g x))) (over_plus xs f g) ∙ interchange m (f x) (g x) (over xs f) (over xs g)

  pub over_minus : (xs : List X) (f g : X → m.Carrier) → over xs (λ x. m.minus (f x) (g x)) ≡ m.minus (over xs f) (over xs g)
  over_minus xs f g =
      minus_from m (over xs f) (over xs g) (over xs (λ x. m.minus (f x) (g x)))
      (sym (over_plus xs (λ x. m.minus (f x) (g x)) g) ∙ ap (over xs) (fun_ext (λ x. m.minus_plus (f x) (g x))))

  pub over_zero : (xs : List X) → over xs (λ x. m.zero) ≡ m.zero
  over_zero [] = refl
  over_zero (x ∷ xs) = zero_plus m (over xs (λ x. m.zero)) ∙ over_zero xs

-- a map that keeps sums keeps zero, differences, multiples and sums over lists
module _ (m m' : Model) (f : m.Carrier → m'.Carrier) (keeps : (x y : m.Carrier) → f (m.plus x y) ≡ m'.plus (f x) (f y)) where
  pub keeps_zero : f m.zero ≡ m'.zero
  keeps_zero =
      cancel m' (f m.zero) m'.zero (f m.zero)
      (sym (keeps m.zero m.zero) ∙ ap f (m.plus_zero m.zero) ∙ sym (zero_plus m' (f m.zero)))

  keeps_minus : (x y : m.Carrier) → f (m.minus x y) ≡ m'.minus (f x) (f y)
  keeps_minus x y = minus_from m' (f x) (f y) (f (m.minus x y)) (sym (keeps (m.minus x y) y) ∙ ap f (m.minus_plus x y))

  pub keeps_times : (z : ℤ) (x : m.Carrier) → f (times m z x) ≡ times m' z (f x)
  keeps_times (pos zero) x = keeps_zero
  keeps_times (pos (suc n)) x = keeps x (times m (pos n) x) ∙ ap (m'.plus (f x)) (keeps_times (pos n) x)
  keeps_times (negsuc zero) x = keeps_minus m.zero x ∙ ap (λ u. m'.minus u (f x)) keeps_zero
  keeps_times (negsuc (suc n)) x = keeps_minus (times m (negsuc n) x) x ∙ ap (λ u. m'.minus u (f x)) (keeps_times (negsuc n) x)

  pub keeps_over : {X : Type 0} (xs : List X) (g : X → m.Carrier) → f (over m xs g) ≡ over m' xs (λ x. f (g x))
  keeps_over [] g = keeps_zero
  keeps_over (x ∷ xs) g = keeps (g x) (over m xs g) ∙ ap (m'.plus (f (g x))) (keeps_over xs g)
