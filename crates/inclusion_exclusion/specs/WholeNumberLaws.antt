-- The laws that make the whole numbers an algebra. Assumes nothing.
use Rattle.std.specs.Prelude.{◌≡◌, ℕ, zero, suc, ℤ, pos, ◌+ℤ◌, ◌*ℤ◌}
use Rattle.std.proofs.Common.{sym, ap, ◌∙◌, arith}
use Rattle.std.proofs.Math.IntN.{*ℤ-zero, *ℤ_comm, suc_ℤ-*ℤ}
use Rattle.std.proofs.lemmas.Int.{ints}

more : (x : ℤ) (g : ℕ) → x *ℤ pos (suc g) ≡ x *ℤ pos g +ℤ x
more x g = *ℤ_comm x (pos (suc g)) ∙ suc_ℤ-*ℤ (pos g) x ∙ ap (λ y. y +ℤ x) (*ℤ_comm (pos g) x)

pub product_plus : (g : ℕ) (x y : ℤ) → (x +ℤ y) *ℤ pos g ≡ x *ℤ pos g +ℤ y *ℤ pos g
product_plus zero x y = *ℤ-zero (x +ℤ y) ∙ sym (ap (λ z. z +ℤ y *ℤ pos 0) (*ℤ-zero x) ∙ ap (λ z. pos 0 +ℤ z) (*ℤ-zero y))
product_plus (suc g) x y =
    let before = product_plus g x y in
    let both = more (x +ℤ y) g in
    let left = more x g in
    let right = more y g in
    omega (arith, ints)
