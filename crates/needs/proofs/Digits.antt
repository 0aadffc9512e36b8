-- Where a code's digits end, that they fix it, and how bits read and write them. Assumes nothing.
--
-- digit_first, digit_next             the lowest digit, and those above it
-- digit_past, join_past               a code below b ^ n has no digit from n on, nor has a join of two
-- same_from_digits                    codes below b ^ n with the same n digits are the same
-- put_lt, put_at, put_under           what is put above a code below b ^ i
-- Coded, coded_more, coded_all        a code made digit by digit
-- digit_masked, digit_mask_shifted    a mask in base 2 ^ k, as a number and as a shift makes it
-- put_or                              a shift with `|`, in base 2 ^ k
use Rattle.std.proofs.Common.{◌≡◌, ℕ, zero, suc, ◌+◌, ◌-◌, ◌*◌, ◌/◌, ◌%◌, ◌^◌, ◌<◌, ◌≤◌, sym, ◌∙◌, ⊎_elim, lt_of_lt_of_le, mod-eq_of_lt, mul_assoc, pow-suc, mul-zero, div-add-mod', mul-suc, div-one, add-one, arith, below_more}
use native.Mathlib.Nat.{pow-zero, pow-succ', pow-le-pow_right, div-eq_of_lt, div-div-eq-div-mul, mul-add-div_right, zero-mod, mul-add-mod_self_right}
use lib.Bits.{bit_and, bit_or, or_shifted_r}
use Rattle.std.proofs.lemmas.Nat.{pow-add, div_below, div-mul-add, mul-add-lt, and_mask, one_shl, shl_whole}
use Rattle.std.proofs.lemmas.Bool.{cases_lt}
use Rattle.needs.specs.Levels.{Need, digit, join}

-- a code of a need's first n levels
abbrev pub Coded : ℕ → ℕ → Need → ℕ → Type 0
Coded b n need c = (c < b ^ n) × ((i : ℕ) → i < n → digit b c i ≡ need i)

module _ (b : ℕ) (pos : 0 < b) where
  pub digit_first : (c : ℕ) → digit b c 0 ≡ c % b
  digit_first c = simp (pow-zero, div-one)

  pub digit_next : (c i : ℕ) → digit b c (suc i) ≡ digit b (c / b) i
  digit_next c i = simp (pow-succ', div-div-eq-div-mul)

  pub digit_past : (n c i : ℕ) → c < b ^ n → n ≤ i → digit b c i ≡ 0
  digit_past n c i small past =
      let below : c < b ^ i = lt_of_lt_of_le small (pow-le-pow_right pos past) in
      rw div-eq_of_lt (zero-mod b)

  pub join_past : (n c d i : ℕ) → c < b ^ n → d < b ^ n → n ≤ i → join (digit b c) (digit b d) i ≡ 0
  join_past n c d i small-c small-d past =
      rw (digit_past n c i small-c past, digit_past n d i small-d past)

  from_parts : (c d : ℕ) → c % b ≡ d % b → c / b ≡ d / b → c ≡ d
  from_parts c d low high = cc (div-add-mod' c b, div-add-mod' d b)

  pub same_from_digits : (n c d : ℕ) → c < b ^ n → d < b ^ n
      → ((i : ℕ) → i < n → digit b c i ≡ digit b d i) → c ≡ d
  same_from_digits zero c d small-c small-d same = omega (arith, pow-zero b)
  same_from_digits (suc n) c d small-c small-d same =
      from_parts c d
      (sym (digit_first c) ∙ same 0 (omega arith) ∙ digit_first d)
      (same_from_digits n (c / b) (d / b)
      (div_below c b (b ^ n) pos (rw pow-suc at small-c))
      (div_below d b (b ^ n) pos (rw pow-suc at small-d))
      (λ i h. sym (digit_next c i) ∙ same (suc i) (omega arith) ∙ digit_next d i))

  pub put_lt : (c l i : ℕ) → c < b ^ i → l < b → l * b ^ i + c < b ^ suc i
  put_lt c l i small level = rw pow-suc (mul-add-lt l (b ^ i) c b level small)

  pub put_at : (c l i : ℕ) → c < b ^ i → l < b → digit b (l * b ^ i + c) i ≡ l
  put_at c l i small level = rw div-mul-add (mod-eq_of_lt level)

  put_next : (c l i : ℕ) → (l * b ^ suc i + c) / b ≡ l * b ^ i + c / b
  put_next c l i = rw (pow-suc, ← mul_assoc) (mul-add-div_right pos (l * b ^ i) c)

  pub put_under : (c l i j : ℕ) → j < i → digit b (l * b ^ i + c) j ≡ digit b c j
  put_under c l zero j under = omega arith
  put_under c l (suc i) zero under =
      simp (pow-zero, div-one, pow-suc, ← mul_assoc, mul-add-mod_self_right)
  put_under c l (suc i) (suc j) under =
      simp (digit_next, put_next, put_under (c / b) l i j (omega arith))

  pub coded_more : (i : ℕ) (need : Need) (c l : ℕ) → Coded b i need c → l < b → l ≡ need i
      → Coded b (i + 1) need (l * b ^ i + c)
  coded_more i need c l (small, digits) level is = (
    rw add-one (put_lt c l i small level),
    below_more _ i (λ j h. put_under c l i j h ∙ digits j h) (put_at c l i small level ∙ is),
  )

  pub coded_all : (n : ℕ) (need : Need) (c : ℕ) → Coded b n need c → ((i : ℕ) → n ≤ i → need i ≡ 0)
      → (i : ℕ) → digit b c i ≡ need i
  coded_all n need c (small, digits) ends i =
      ⊎_elim (digits i) (λ past. digit_past n c i small past ∙ sym (ends i past)) (cases_lt i n)

pow_mul : (b k i : ℕ) → b ^ (k * i) ≡ (b ^ k) ^ i
pow_mul b k zero = simp (mul-zero, pow-zero)
pow_mul b k (suc i) = simp (mul-suc, pow-add, pow-suc, pow_mul b k i)

pub digit_masked : (k c i : ℕ) → bit_and (c / 2 ^ (k * i)) (2 ^ k - 1) ≡ digit (2 ^ k) c i
digit_masked k c i = rw (and_mask, pow_mul)

-- the mask made by a shift at a type of w bits
pub digit_mask_shifted : (k w c i : ℕ) → k < w → bit_and (c / 2 ^ (k * i)) (1 * 2 ^ k % 2 ^ w - 1) ≡ digit (2 ^ k) c i
digit_mask_shifted k w c i fits = rw one_shl (digit_masked k c i)

-- at a type of w bits
pub put_or : (k w c l i : ℕ) → c < (2 ^ k) ^ i → l < 2 ^ k → k + k * i ≤ w
    → bit_or c (l * 2 ^ (k * i) % 2 ^ w) ≡ l * (2 ^ k) ^ i + c
put_or k w c l i small level fits =
    rw (shl_whole l k (k * i) w level fits) (or_shifted_r l (k * i) c (rw pow_mul small) ∙ rw pow_mul)
