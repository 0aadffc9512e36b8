-- Which readings are chances, by the code's tests, and what the sixty_fourths of one are. Assumes nothing.
use Rattle.std.proofs.Common.{◌≡◌, ℕ, ◌*◌, ◌≤◌, Bool, true, false, not, Decides, sym, ◌∙◌, refl, ap, true≢false, le-div_iff_mul-le, le-mul_of_pos_right, arith}
use mathlib.Core.Bool.{false≢true}
use native.Mathlib.Nat.{div-le_of_le-mul}
use lib.Ieee.{Float, nan, inf, fin, binary64, up, down, of_bits, lt, le, is_nan}
use lib.Ieee.Fits.{up_pos, down_pos}
use Rattle.std.proofs.lemmas.Bool.{ltb-false, le-ltb, and_parts}
use Rattle.std.specs.Prelude.{T, ◌&&◌}
use Rattle.std.specs.Float.{NotNan}
use Rattle.std.specs.Ordering.{float_partial_cmp}
use Rattle.std.specs.declared.ops.RangeInclusive.{RangeInclusive}
use Rattle.std.specs.Range.{range_inclusive_start, range_inclusive_end, range_inclusive_exhausted, range_inclusive_contains}
use Rattle.std.proofs.lemmas.Float.{le_right, T_from_true, T_from_false}
use Rattle.readings.specs.Readings.{IsChance, AtMost, sixty_fourths}
use Rattle.readings.proofs.Order.{le_is_not_lt, partial_le_is}

-- the numbers are 0 and 1, by their bits
pub chance_from_tests : (p : Float) → is_nan p ≡ false → lt p (of_bits binary64 0) ≡ false → lt (of_bits binary64 0x3ff0_0000_0000_0000) p ≡ false → IsChance p
unfolding of_bits is_nan lt
chance_from_tests nan number least most = true≢false number
chance_from_tests (inf true) number least most = true≢false least
chance_from_tests (inf false) number least most = true≢false most
chance_from_tests (fin true m e) number least most =
    let none : m * up e ≤ 0 = omega (arith, ltb-false _ _ least) in
    (λ _. omega (arith, le-mul_of_pos_right m (up_pos e)), omega arith)
chance_from_tests (fin false m e) number least most = (λ minus. absurd (false≢true minus), omega (arith, ltb-false _ _ most))

pub tests_from_chance : (p : Float) → IsChance p → (is_nan p ≡ false) × (lt p (of_bits binary64 0) ≡ false) × (lt (of_bits binary64 0x3ff0_0000_0000_0000) p ≡ false)
unfolding of_bits is_nan lt
tests_from_chance nan chance = absurd chance
tests_from_chance (inf s) chance = absurd chance
tests_from_chance (fin true m e) chance = (refl, le-ltb _ _ (omega (arith, ap (λ k. k * up e) (chance.0 refl))), refl)
tests_from_chance (fin false m e) chance = (refl, le-ltb _ _ (omega arith), le-ltb _ _ (omega arith))

-- the same tests, as a range that contains the reading makes them
zero : NotNan (of_bits binary64 0)
unfolding of_bits is_nan
zero = tt

one : NotNan (of_bits binary64 0x3ff0_0000_0000_0000)
unfolding of_bits is_nan
one = tt

number : (b : Bool) → T (not b) → b ≡ false
number true t = absurd t
number false t = refl

not_true : (b : Bool) → not b ≡ true → b ≡ false
not_true true e = sym e
not_true false e = refl

chance_from_range : (p : Float) → le (of_bits binary64 0) p ≡ true → le p (of_bits binary64 0x3ff0_0000_0000_0000) ≡ true → IsChance p
chance_from_range p least most =
    let here = le_right (of_bits binary64 0) p (T_from_true _ least) in
    chance_from_tests p (number _ here) (not_true _ (sym (le_is_not_lt p _ here zero _ _ refl least))) (not_true _ (sym (le_is_not_lt _ p one here _ _ refl most)))

range_from_chance : (p : Float) → IsChance p → (le (of_bits binary64 0) p ≡ true) × (le p (of_bits binary64 0x3ff0_0000_0000_0000) ≡ true)
range_from_chance p chance =
    let tests = tests_from_chance p chance in
    let here = T_from_false _ tests.0 in
    (le_is_not_lt p _ here zero _ _ tests.1 refl, le_is_not_lt _ p one here _ _ tests.2 refl)

-- a range from 0 to 1 contains the chances
pub contains_decides : (s : RangeInclusive Float) → range_inclusive_start s ≡ of_bits binary64 0 → range_inclusive_end s ≡ of_bits binary64 0x3ff0_0000_0000_0000 → range_inclusive_exhausted s ≡ false
    → (p : Float) (b : Bool) → b ≡ range_inclusive_contains float_partial_cmp s p → Decides b (IsChance p)
contains_decides s start end fresh p b is =
    let tests : b ≡ (le (of_bits binary64 0) p && le p (of_bits binary64 0x3ff0_0000_0000_0000)) = is ∙ rw (start, end, fresh, partial_le_is (of_bits binary64 0) p, partial_le_is p (of_bits binary64 0x3ff0_0000_0000_0000)) in (
      λ yes. let both = and_parts _ _ (sym tests ∙ yes) in chance_from_range p both.0 both.1,
      λ chance. let both = range_from_chance p chance in tests ∙ rw (both.0, both.1),
    )

-- the sixty_fourths of a chance are a weight
pub to_certainty : (p : Float) → IsChance p → sixty_fourths p ≤ 64
to_certainty nan chance = absurd chance
to_certainty (inf s) chance = absurd chance
to_certainty (fin s m e) chance = div-le_of_le-mul (down e) (omega arith)

pub largest : (p : Float) → IsChance p → AtMost (sixty_fourths p) p × ((v : ℕ) → AtMost v p → v ≤ sixty_fourths p)
largest nan chance = absurd chance
largest (inf s) chance = absurd chance
largest (fin s m e) chance = ((le-div_iff_mul-le (down_pos e)).0 (omega arith), λ v most. (le-div_iff_mul-le (down_pos e)).1 most)
