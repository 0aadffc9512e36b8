-- What the laws of an algebra give of sums, differences and alternating sums. Assumes nothing.
use Rattle.std.proofs.Common.{◌≡◌, ℕ, zero, suc, ◌%◌, ◌<◌, Bool, true, false, cond, not, eqb, sym, refl, ap, ◌∙◌, arith}
use Rattle.std.proofs.lemmas.Bool.Decides.{nat_tests}
use Rattle.algebras.specs.Model.{Model}
use Rattle.totals.specs.Choices.{alternating}

-- the parity of the next number
pub turns : (k : ℕ) → eqb (suc k % 2) 0 ≡ not (eqb (k % 2) 0)
turns k = grind (arith, nat_tests)

module _ (m : Model) where
  pub zero_plus : (x : m.Carrier) → m.plus m.zero x ≡ x
  zero_plus x = m.plus_comm m.zero x ∙ m.plus_zero x

  -- x + z, less z again
  undo : (x z : m.Carrier) → m.plus (m.plus x z) (m.minus m.zero z) ≡ x
  undo x z =
      m.plus_assoc x z (m.minus m.zero z)
      ∙ ap (m.plus x) (m.plus_comm z (m.minus m.zero z) ∙ m.minus_plus m.zero z)
      ∙ m.plus_zero x

  pub cancel : (x y z : m.Carrier) → m.plus x z ≡ m.plus y z → x ≡ y
  cancel x y z same = sym (undo x z) ∙ ap (λ u. m.plus u (m.minus m.zero z)) same ∙ undo y z

  -- a difference is known by what it makes up for
  pub minus_from : (x y z : m.Carrier) → m.plus z y ≡ x → z ≡ m.minus x y
  minus_from x y z adds = cancel z (m.minus x y) y (adds ∙ sym (m.minus_plus x y))

  pub minus_zero : (x : m.Carrier) → m.minus x m.zero ≡ x
  minus_zero x = sym (minus_from x m.zero x (m.plus_zero x))

  pub interchange : (a b c d : m.Carrier) → m.plus (m.plus a b) (m.plus c d) ≡ m.plus (m.plus a c) (m.plus b d)
  interchange a b c d =
      m.plus_assoc a b (m.plus c d)
      ∙ ap (m.plus a) (sym (m.plus_assoc b c d) ∙ ap (λ u. m.plus u d) (m.plus_comm b c) ∙ m.plus_assoc c b d)
      ∙ sym (m.plus_assoc a c (m.plus b d))

  abbrev signed : Bool → m.Carrier → m.Carrier → m.Carrier
  signed b x y = cond b (m.plus x y) (m.minus x y)

  signed_plus : (b : Bool) (x y u v : m.Carrier) → signed b (m.plus x y) (m.plus u v) ≡ m.plus (signed b x u) (signed b y v)
  signed_plus true x y u v = interchange x y u v
  signed_plus false x y u v =
      sym (minus_from (m.plus x y) (m.plus u v) (m.plus (m.minus x u) (m.minus y v))
      (interchange (m.minus x u) (m.minus y v) u v ∙ ap (λ w. m.plus w (m.plus (m.minus y v) v)) (m.minus_plus x u) ∙ ap (m.plus x) (m.minus_plus y v)))

  -- the sign turns once a difference is taken
  signed_not : (b : Bool) (x y z : m.Carrier) → signed (not b) (m.minus x y) z ≡ m.minus x (signed b y z)
  signed_not true x y z =
      minus_from x (m.plus y z) (m.minus (m.minus x y) z)
      (ap (m.plus (m.minus (m.minus x y) z)) (m.plus_comm y z) ∙ sym (m.plus_assoc (m.minus (m.minus x y) z) z y)
      ∙ ap (λ w. m.plus w y) (m.minus_plus (m.minus x y) z) ∙ m.minus_plus x y)
  signed_not false x y z =
      minus_from x (m.minus y z) (m.plus (m.minus x y) z)
      (m.plus_assoc (m.minus x y) z (m.minus y z) ∙ ap (m.plus (m.minus x y)) (m.plus_comm z (m.minus y z) ∙ m.minus_plus y z) ∙ m.minus_plus x y)

  pub alternating_same : (f h : ℕ → m.Carrier) (r : ℕ) → ((k : ℕ) → k < r → f k ≡ h k) → alternating m f r ≡ alternating m h r
  alternating_same f h zero same = refl
  alternating_same f h (suc r) same =
      let before = alternating_same f h r (λ k b. same k (omega arith)) in
      let here = same r (omega arith) in
      cc

  pub alternating_plus : (f h : ℕ → m.Carrier) (r : ℕ) → alternating m (λ k. m.plus (f k) (h k)) r ≡ m.plus (alternating m f r) (alternating m h r)
  alternating_plus f h zero = sym (m.plus_zero m.zero)
  alternating_plus f h (suc r) =
      ap (λ x. signed (eqb (r % 2) 0) x (m.plus (f r) (h r))) (alternating_plus f h r)
      ∙ signed_plus (eqb (r % 2) 0) (alternating m f r) (alternating m h r) (f r) (h r)

  -- the first term, less the alternating sum of the others
  pub alternating_first : (f : ℕ → m.Carrier) (r : ℕ) → alternating m f (suc r) ≡ m.minus (f 0) (alternating m (λ k. f (suc k)) r)
  alternating_first f zero = zero_plus (f 0) ∙ sym (minus_zero (f 0))
  alternating_first f (suc r) =
      ap (λ x. signed (eqb (suc r % 2) 0) x (f (suc r))) (alternating_first f r)
      ∙ ap (λ b. signed b (m.minus (f 0) (alternating m (λ k. f (suc k)) r)) (f (suc r))) (turns r)
      ∙ signed_not (eqb (r % 2) 0) (f 0) (alternating m (λ k. f (suc k)) r) (f (suc r))

  pub alternating_zero : (r : ℕ) → alternating m (λ k. m.zero) r ≡ m.zero
  alternating_zero zero = refl
  alternating_zero (suc r) = ap (λ x. signed (eqb (r % 2) 0) x m.zero) (alternating_zero r) ∙ nought (eqb (r % 2) 0) where
    nought : (b : Bool) → signed b m.zero m.zero ≡ m.zero
    nought true = m.plus_zero m.zero
    nought false = minus_zero m.zero
