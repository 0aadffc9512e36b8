-- The count of a state: how it grows with the needs met, and where it lies. Assumes nothing.
use Rattle.std.proofs.Common.{◌≡◌, ℕ, zero, suc, ◌+◌, ◌%◌, ◌^◌, ◌<◌, ◌≤◌, Bool, true, false, cond, not, eqb, ltb, ℤ, pos, ◌+ℤ◌, ◌-ℤ◌, neg_ℤ, ◌≤ℤ◌, sym, refl, ap, ◌∙◌, arith, pow_pos, pow_mono}
use native.Mathlib.Nat.{two-pow-succ}
use Rattle.std.proofs.lemmas.Int.{ints}
use Rattle.std.proofs.lemmas.Bool.{lt-ltb, eq-eqb, ne_eqb}
use Rattle.totals.proofs.Groups.{turns}
use Rattle.inclusion_exclusion.specs.States.{choose, count}

-- a state is counted once where a warning arrives
abbrev pub once : (needs_met : ℕ) → ℤ
once k = cond (ltb 0 k) (pos 1) (pos 0)

once_met : (k : ℕ) → once (suc k) ≡ pos 1
once_met k = ap (λ b. cond b (pos 1) (pos 0)) (lt-ltb 0 (suc k) (omega arith))

choose_none : (n r : ℕ) → n < r → choose n r ≡ 0
choose_none n zero less = absurd (omega arith)
choose_none zero (suc r) less = refl
choose_none (suc n) (suc r) less =
    let with_first = choose_none n r (omega arith) in
    let without = choose_none n (suc r) (omega arith) in
    omega arith

choose_most : (n r : ℕ) → choose n r ≤ 2 ^ n
choose_most n zero = pow_pos n
choose_most zero (suc r) = omega arith
choose_most (suc n) (suc r) =
    let with_first = choose_most n r in
    let without = choose_most n (suc r) in
    let twice = two-pow-succ n in
    omega arith

choose_few : (n r : ℕ) → n ≤ 11 → choose n r ≤ 2048
choose_few n r few =
    let some = choose_most n r in
    let all : 2 ^ n ≤ 2048 = pow_mono few in
    omega arith

-- the count where one need or more is met
abbrev counted : (even : Bool) (chosen : ℕ) → ℤ
counted even c = cond even (pos 1 -ℤ pos c) (pos 1 +ℤ pos c)

counted_none : (even : Bool) (c : ℕ) → c ≡ 0 → counted even c ≡ pos 1
counted_none true c none = omega (arith, ints)
counted_none false c none = omega (arith, ints)

pascal : (even : Bool) (c d : ℕ) → counted (not even) (c + d) ≡ counted (not even) d +ℤ (pos 1 -ℤ counted even c)
pascal true c d = omega (arith, ints)
pascal false c d = omega (arith, ints)

counted_near : (even : Bool) (c : ℕ) → c ≤ 2048 → (neg_ℤ (pos 4096) ≤ℤ counted even c) × (counted even c ≤ℤ pos 4096)
counted_near true c few = omega (arith, ints)
counted_near false c few = omega (arith, ints)

pub count_none : (k : ℕ) → count k 0 ≡ pos 0
count_none zero = refl
count_none (suc k) = refl

pub count_more : (k r : ℕ) → count (suc k) (suc r) ≡ count k (suc r) +ℤ (pos 1 -ℤ count k r)
count_more zero r = counted_none (eqb (suc r % 2) 0) 0 refl
count_more (suc k) r =
    let b = eqb (r % 2) 0 in
    ap (λ b'. counted b' (choose k r + choose k (suc r))) (turns r)
    ∙ pascal b (choose k r) (choose k (suc r))
    ∙ ap (λ b'. counted b' (choose k (suc r)) +ℤ (pos 1 -ℤ counted b (choose k r))) (sym (turns r))

pub count_even : (k r : ℕ) → r % 2 ≡ 0 → count k r ≤ℤ once k
count_even zero r even = omega (arith, ints)
count_even (suc k) r even =
    let is = ap (λ b. counted b (choose k r)) (eq-eqb (r % 2) 0 even) in
    let one = once_met k in
    omega (arith, ints)

pub count_odd : (k r : ℕ) → r % 2 ≡ 1 → once k ≤ℤ count k r
count_odd zero r odd = omega (arith, ints)
count_odd (suc k) r odd =
    let is = ap (λ b. counted b (choose k r)) (ne_eqb (r % 2) 0 (λ even. omega arith)) in
    let one = once_met k in
    omega (arith, ints)

pub count_full : (k r : ℕ) → k ≤ r → count k r ≡ once k
count_full zero r full = refl
count_full (suc k) r full = counted_none (eqb (r % 2) 0) (choose k r) (choose_none k r full) ∙ sym (once_met k)

pub count_near : (k r : ℕ) → k ≤ 12 → (neg_ℤ (pos 4096) ≤ℤ count k r) × (count k r ≤ℤ pos 4096)
count_near zero r few = omega (arith, ints)
count_near (suc k) r few = counted_near (eqb (r % 2) 0) (choose k r) (choose_few k r (omega arith))
