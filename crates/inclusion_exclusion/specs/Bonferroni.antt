-- Brackets around the reliability of a sheet by Bonferroni's bounds, and what they tell of it.
--
-- full       a depth of at least as many needs as are held
-- ends       the low and the high end of a bracket, exact
-- pair       the ends in units of 2^-32 of certainty: the low one rounded down, the high one up
-- threshold  in units of 2^-15 of certainty
-- holds      the reliability lies between the numbers of a pair, the numbers included
-- inside     a pair whose low number is not smaller and whose high number is not larger
use Rattle.std.specs.Prelude.{◌≡◌, ℕ, zero, suc, ◌+◌, ◌*◌, ◌/◌, ◌%◌, ◌^◌, ◌≤◌, Bool, true, false, cond, List, length, ℤ, pos, negsuc, ◌≤ℤ◌, ◌<ℤ◌, ◌==◌, int_le, int_lt, nat_le}
use Rattle.std.specs.Int.{int_max, int_min}
use Rattle.needs.specs.Levels.{Need}
use Rattle.totals.specs.Choices.{Setting}
use Rattle.inclusion_exclusion.specs.States.{Within}
use Rattle.inclusion_exclusion.specs.Reliability.{totals, reliability, Proper}

-- the largest of 0 and the totals at even depths up to the given one
abbrev pub best_low : (total : ℕ → ℤ) (depth : ℕ) → ℤ
best_low t zero = pos 0
best_low t (suc r) = cond (suc r % 2 == 0) (int_max (best_low t r) (t (suc r))) (best_low t r)

-- the smallest of certainty and the totals at odd depths up to the given one
abbrev pub best_high : (total : ℕ → ℤ) (depth : ℕ) → ℤ
best_high t zero = pos (2 ^ 48)
best_high t (suc r) = cond (suc r % 2 == 0) (best_high t r) (int_min (best_high t r) (t (suc r)))

abbrev pub low_end : (total : ℕ → ℤ) (held depth : ℕ) → ℤ
low_end t held depth = cond (nat_le held depth) (t depth) (best_low t depth)

abbrev pub high_end : (total : ℕ → ℤ) (held depth : ℕ) → ℤ
high_end t held depth = cond (nat_le held depth) (t depth) (best_high t depth)

-- whole units of 2^16, none below 0
abbrev pub rounded_down : ℤ → ℕ
rounded_down (pos n) = n / 2 ^ 16
rounded_down (negsuc n) = 0

abbrev pub rounded_up : ℤ → ℕ
rounded_up (pos n) = (n + 65535) / 2 ^ 16
rounded_up (negsuc n) = 0

-- the pair of a bracket, by its ends
abbrev pub rounded : (low high : ℤ) → ℕ × ℕ
rounded low high = (rounded_down low, rounded_up high)

-- the low end reaches the threshold
abbrev pub is_sound : (low : ℤ) (threshold : ℕ) → Bool
is_sound low t = int_le (pos (t * 2 ^ 33)) low

-- the high end does not
abbrev pub wants_attention : (high : ℤ) (threshold : ℕ) → Bool
wants_attention high t = int_lt high (pos (t * 2 ^ 33))

abbrev pub Holds : ℕ × ℕ → ℤ → Type 0
Holds p e = (pos (p.0 * 2 ^ 16) ≤ℤ e) × (e ≤ℤ pos (p.1 * 2 ^ 16))

abbrev pub Inside : ℕ × ℕ → ℕ × ℕ → Type 0
Inside p q = (q.0 ≤ p.0) × (p.1 ≤ q.1)

module _ (s : Setting) (ds : List Need) where
  abbrev pub low : (depth : ℕ) → ℤ
  low depth = low_end (totals s ds) (length ds) depth

  abbrev pub high : (depth : ℕ) → ℤ
  high depth = high_end (totals s ds) (length ds) depth

  abbrev pub bracket : (depth : ℕ) → ℕ × ℕ
  bracket depth = rounded (low depth) (high depth)

  -- at every depth the ends and the pair hold the reliability, and those of greater depths lie inside
  pub record Bracketed : Type 0 where
    pub ends_hold : (depth : ℕ) → (low depth ≤ℤ reliability s ds) × (reliability s ds ≤ℤ high depth)
    pub ends_inside : (depth deeper : ℕ) → depth ≤ deeper → (low depth ≤ℤ low deeper) × (high deeper ≤ℤ high depth)
    pub holds : (depth : ℕ) → Holds (bracket depth) (reliability s ds)
    pub inside : (depth deeper : ℕ) → depth ≤ deeper → Inside (bracket deeper) (bracket depth)

  -- neither word is said wrongly, and at full depth one of the two is said
  pub record Judged : Type 0 where
    pub sound : (depth threshold : ℕ) → is_sound (low depth) threshold ≡ true → pos (threshold * 2 ^ 33) ≤ℤ reliability s ds
    pub attention : (depth threshold : ℕ) → wants_attention (high depth) threshold ≡ true → reliability s ds <ℤ pos (threshold * 2 ^ 33)
    pub decides : (depth threshold : ℕ) → length ds ≤ depth → is_sound (low depth) threshold ≡ false → wants_attention (high depth) threshold ≡ true

abbrev pub BracketsHoldReliability : Type 0
BracketsHoldReliability = (s : Setting) (ds : List Need) → Proper s → Within s.top ds → length ds ≤ 12 → Bracketed s ds

abbrev pub VerdictsTellReliability : Type 0
VerdictsTellReliability = (s : Setting) (ds : List Need) → Proper s → Within s.top ds → length ds ≤ 12 → Judged s ds
