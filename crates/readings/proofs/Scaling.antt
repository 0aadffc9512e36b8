-- Sixty-four times a chance is exact, and compares with a whole number as its whole part does. Assumes nothing.
use Rattle.std.proofs.Common.{◌≡◌, ℕ, zero, suc, ◌+◌, ◌-◌, ◌*◌, ◌/◌, ◌^◌, ◌<◌, ◌≤◌, Bool, true, false, ltb, ℤ, pos, negsuc, sym, refl, ap, ◌∙◌, inl, inr, true≢false, lt_of_lt_of_le, div-lt_iff_lt-mul, lt_of_mul-lt-mul_right, mul-lt-mul_of_pos_right, mul-one, le-mul_of_pos_right, arith, lit≤, pow_pos, pow_mono, pow-add, shl_lt}
use lib.Pow.{pow-lt}
use lib.Ieee.{Float, nan, inf, fin, Format, binary32, binary64, prec, emax, low, up, down, unlike, round, mul, of_int, lt, le, is_nan, of_bits, fits}
use lib.Ieee.Fits.{down_pos}
use lib.Ieee.Exact.{HasValue, round_exact}
use lib.Ieee.Back.{round_whole}
use lib.Ieee.Nearest.{div_same}
use Rattle.std.proofs.lemmas.Bool.{and_parts, cases_lt, ltb-true, leb-true, eqb-true}
use Rattle.std.proofs.lemmas.Bool.Decides.{nat_tests}
use lib.Dec.{leb}
use Rattle.std.specs.Float.{NotNan}
use Rattle.readings.specs.Readings.{IsChance, sixty_fourths}
use Rattle.readings.proofs.Order.{le_is_not_lt}

-- ---- a fraction and a whole number

same_test : (a b c d : ℕ) → (a < b → c < d) → (c < d → a < b) → ltb a b ≡ ltb c d
same_test a b c d to from = grind (arith, nat_tests)

-- a / b is below w, written as c / d, where its whole part is
below_whole : (a b c d w : ℕ) → 0 < b → 0 < d → c ≡ w * d → ltb (a * d) (c * b) ≡ ltb (a / b) w
below_whole a b c d w B D is =
    let over : c * b ≡ w * b * d = omega (arith, ap (λ k. k * b) is) in
    same_test _ _ _ _
    (λ less. (div-lt_iff_lt-mul B).1 (lt_of_mul-lt-mul_right d (omega arith)))
    (λ less. omega (arith, mul-lt-mul_of_pos_right ((div-lt_iff_lt-mul B).0 less) D))

-- a float that is a / c, and not negative unless it is minus zero
lt_whole : (x y : Float) (s : Bool) (a c w : ℕ) → 0 < c → (s ≡ true → a ≡ 0) → HasValue x s a c → HasValue y false w 1 → lt x y ≡ ltb (a / c) w
unfolding lt
lt_whole nan y s a c w C none is whole = absurd is
lt_whole (inf t) y s a c w C none is whole = absurd is
lt_whole (fin t m e) nan s a c w C none is whole = absurd whole
lt_whole (fin t m e) (inf r) s a c w C none is whole = absurd whole
lt_whole (fin t m e) (fin true n d) s a c w C none is whole = absurd (true≢false whole.0)
lt_whole (fin t m e) (fin false n d) s a c w C none is whole =
    by_sign t (λ minus. none (sym is.0 ∙ minus))
    ∙ below_whole (m * up e) (down e) (n * up d) (down d) w (down_pos e) (down_pos d) (omega (arith, whole.1))
    ∙ ap (λ k. ltb k w) (div_same (m * up e) (down e) a c (down_pos e) C is.1)
  where
    by_sign : (b : Bool) → (b ≡ true → a ≡ 0) → lt (fin b m e) (fin false n d) ≡ ltb (m * up e * down d) (n * up d * down e)
    by_sign true at_zero =
        let size : m * up e ≡ 0 = omega (arith, is.1, at_zero refl, ap (λ k. k * down e) (at_zero refl), le-mul_of_pos_right (m * up e) C) in
        same_test _ _ _ _ (λ less. omega (arith, ap (λ k. k * down d) size)) (λ less. omega (arith, ap (λ k. k * down d) size))
    by_sign false at_zero = refl

-- ---- the product

-- 64 times q / 2^k, for whose digits the format has room
room : (f : Format) → prec f + 6 ≤ suc (emax f)
room binary32 = lit≤ tt
room binary64 = lit≤ tt

exact : (f : Format) (s : Bool) (q k : ℕ) → q < 2 ^ prec f → k ≤ low f → HasValue (round f s (q * 64) (2 ^ k)) s (q * 64) (2 ^ k)
exact f s q k small in_place =
    let j = 6 + low f - k in
    let under : prec f + j ≤ low f + suc (emax f) = omega (arith, room f) in
    let all : 2 ^ j * 2 ^ k ≡ 64 * 2 ^ low f = sym (pow-add 2 j k) ∙ ap (λ i. 2 ^ i) {x = j + k} {y = 6 + low f} (omega arith) ∙ pow-add 2 6 (low f) in
    round_exact f s (q * 64) (2 ^ k) q j (pow_pos k) small (lt_of_lt_of_le (shl_lt (prec f) j small) (pow_mono under)) (omega (arith, ap (λ i. q * i) all))

-- a number that the format has: its digits, and the last place of one that is no whole number
digits : (f : Format) (s : Bool) (m : ℕ) (e : ℤ) → fits f (fin s m e) ≡ true → m < 2 ^ prec f
unfolding fits
digits f s zero e fit = pow_pos (prec f)
digits f s (suc m) e fit = ltb-true _ _ (and_parts _ _ (and_parts _ _ (and_parts _ _ fit).0).0).1

place_from_pow : (i j : ℕ) → 2 ^ i ≤ 2 ^ j → i ≤ j
place_from_pow i j h = elim (cases_lt j i) [ inl less ↦ omega (arith, pow-lt less) | inr no_less ↦ no_less ]

last_place : (f : Format) (s : Bool) (m k : ℕ) → fits f (fin s m (negsuc k)) ≡ true → suc k ≤ low f
unfolding fits
last_place f s zero k fit = place_from_pow (suc k) (low f) (omega (arith, eqb-true _ _ fit, pow_pos (low f)))
last_place f s (suc m) k fit = place_from_pow (suc k) (low f) (leb-true _ _ (and_parts _ _ (and_parts _ _ fit).0).1)

same_sign : (s : Bool) → unlike s false ≡ s
same_sign true = refl
same_sign false = refl

times_64 : (s : Bool) (m : ℕ) (e : ℤ) → fits binary64 (fin s m e) ≡ true → IsChance (fin s m e)
    → HasValue (mul binary64 (fin s m e) (of_bits binary64 0x4050_0000_0000_0000)) s (m * up e * 64) (down e)
unfolding of_bits mul
times_64 s m (pos k) fit chance = rw (same_sign s) (exact binary64 s (m * 2 ^ k) 0 (omega (arith, chance.1)) (omega arith))
times_64 s m (negsuc k) fit chance =
    rw (same_sign s, mul-one (2 ^ suc k)) (exact binary64 s (m * 1) (suc k) (omega (arith, digits binary64 s m (negsuc k) fit)) (last_place binary64 s m k fit))

-- ---- the test of a weight

not_nan : (x : Float) (s : Bool) (a c : ℕ) → HasValue x s a c → NotNan x
unfolding is_nan
not_nan nan s a c is = absurd is
not_nan (inf t) s a c is = absurd is
not_nan (fin t m e) s a c is = tt

-- w as a float is at most 64 times p
pub scaled_most : (p : Float) (w : ℕ) → fits binary64 p ≡ true → IsChance p → w ≤ 64
    → le (of_int binary64 (pos w)) (mul binary64 p (of_bits binary64 0x4050_0000_0000_0000)) ≡ leb w (sixty_fourths p)
unfolding of_int
scaled_most nan w fit chance most = absurd chance
scaled_most (inf s) w fit chance most = absurd chance
scaled_most (fin s m e) w fit chance most =
    let product = times_64 s m e fit chance in
    let whole = round_whole binary64 false w (omega arith) in
    le_is_not_lt _ _ (not_nan _ _ _ _ product) (not_nan _ _ _ _ whole) _ _ (lt_whole _ _ s (m * up e * 64) (down e) w (down_pos e) (λ minus. omega (arith, ap (λ k. k * up e) (chance.0 minus))) product whole) refl
    ∙ grind (arith, nat_tests)
