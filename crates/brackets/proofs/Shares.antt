-- A number's share of certainty: up to 2^53 nothing is lost. Assumes nothing.
use Rattle.std.proofs.Common.{◌≡◌, ℕ, ◌*◌, ◌^◌, ◌≤◌, true, false, pos, sym, refl, ap, ◌∙◌, subst, inl, inr, true≢false, lt_of_lt_of_le, mul_assoc, eq-or-lt_of_le, mul-pos, arith, lit<, lit≤, pow_pos, shl_lt}
use lib.Ieee.{Float, nan, inf, fin, binary64, up, down, round, div, of_int, of_bits}
use lib.Ieee.Fits.{down_pos}
use lib.Ieee.Exact.{HasValue, round_exact}
use lib.Ieee.Back.{round_whole}
use lib.Ieee.Scale.{round_same}
use Rattle.brackets.specs.Screens.{share}

-- 2^32 as the code writes it, by its bits, and as a float
unit_bits : of_bits binary64 0x41f0_0000_0000_0000 ≡ of_int binary64 (pos (2 ^ 32))
unfolding of_bits of_int
unit_bits = refl

unit_is : of_int binary64 (pos (2 ^ 32)) ≡ fin false 1 (pos 32)
unfolding of_int
unit_is = refl

pub is_share : (n : ℕ) (x : Float) → x ≡ of_int binary64 (pos n) → div binary64 x (of_bits binary64 0x41f0_0000_0000_0000) ≡ share n
is_share n x is = rw (is, unit_bits)

rounded : (n : ℕ) → n ≤ 2 ^ 53 → HasValue (round binary64 false n (2 ^ 32)) false n (2 ^ 32)
rounded n most =
    elim (eq-or-lt_of_le most) [
      | inl is ↦ subst (λ k. HasValue (round binary64 false k (2 ^ 32)) false k (2 ^ 32)) (sym is) (round_exact binary64 false (2 ^ 53) (2 ^ 32) 1 1095 (lit< tt) (lit< tt) (lit< tt) refl)
      | inr less ↦ round_exact binary64 false n (2 ^ 32) n 1042 (lit< tt) less (lt_of_lt_of_le (shl_lt 53 1042 less) (lit≤ tt)) (sym (mul_assoc n (2 ^ 1042) (2 ^ 32)))
    ]

-- a whole number divided by 2^32 is rounded once
divided : (x : Float) (n : ℕ) → HasValue x false n 1 → div binary64 x (fin false 1 (pos 32)) ≡ round binary64 false n (2 ^ 32)
unfolding div
divided nan n is = absurd is
divided (inf s) n is = absurd is
divided (fin true m e) n is = absurd (true≢false is.0)
divided (fin false m e) n is = round_same binary64 false (m * up e * 1) (2 ^ 32 * down e) n (2 ^ 32) (mul-pos (pow_pos 32) (down_pos e)) (pow_pos 32) (omega (arith, is.1))

pub share_exact : (n : ℕ) → n ≤ 2 ^ 53 → HasValue (share n) false n (2 ^ 32)
unfolding of_int
share_exact n most =
    subst (λ x. HasValue x false n (2 ^ 32))
    (sym (ap (div binary64 (of_int binary64 (pos n))) unit_is ∙ divided (of_int binary64 (pos n)) n (round_whole binary64 false n most)))
    (rounded n most)
