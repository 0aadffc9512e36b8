-- An array that `from_fn` makes by a closure that only reads. Assumes nothing.
use Rattle.std.proofs.Common.{◌≡◌, ℕ, List, [], ◌∷◌, length, get_or, refl, ◌∙◌, subst, arith}
use Rattle.std.specs.Fn.{Mut, Called}
use Rattle.std.specs.Array.{IsFromFnResult, IsFromFnResultFrom}

pub three : (ys : List ℕ) → length ys ≡ 3 → ys ≡ get_or ys 0 0 ∷ get_or ys 1 0 ∷ get_or ys 2 0 ∷ []
three [] long = absurd (omega arith)
three (a ∷ []) long = absurd (omega arith)
three (a ∷ b ∷ []) long = absurd (omega arith)
three (a ∷ b ∷ c ∷ []) long = refl
three (a ∷ b ∷ c ∷ d ∷ more) long = absurd (omega arith)

module _ {F : Type 0} (g : Mut F (ℕ × Unit {0}) ℕ) (f : F) (h : ℕ → ℕ) (reads : (i y : ℕ) (q : F) → Called g f (i, tt) y q → (q ≡ f) × (y ≡ h i)) (ys : List ℕ) where
  pub three_read : IsFromFnResult g f ys 3 → ys ≡ h 0 ∷ h 1 ∷ h 2 ∷ []
  three_read made =
      let a = made.each in
      let first = reads 0 a.1 a.0 a.3 in
      let b = subst (λ (p : F). IsFromFnResultFrom g p ys 1 2) first.0 a.4 in
      let second = reads 1 b.1 b.0 b.3 in
      let c = subst (λ (p : F). IsFromFnResultFrom g p ys 2 1) second.0 b.4 in
      let third = reads 2 c.1 c.0 c.3 in
      let e : get_or ys 0 0 ≡ h 0 = a.2.1 0 ∙ first.1 in
      let e' : get_or ys 1 0 ≡ h 1 = b.2.1 0 ∙ second.1 in
      let e'' : get_or ys 2 0 ≡ h 2 = c.2.1 0 ∙ third.1 in
      three ys made.long ∙ (cc)
