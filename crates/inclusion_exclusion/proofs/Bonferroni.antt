-- From bounds to brackets and verdicts. Assumes nothing.
use Rattle.std.proofs.Common.{◌≡◌, ℕ, zero, suc, ◌*◌, ◌%◌, ◌^◌, ◌≤◌, Bool, true, false, cond, eqb, leb, List, length, ℤ, pos, negsuc, ◌≤ℤ◌, ◌<ℤ◌, sym, refl, ap, inl, inr, arith}
use Rattle.std.specs.Int.{int_max, int_min}
use Rattle.std.proofs.lemmas.Int.{ints, clamps}
use Rattle.std.proofs.lemmas.Bool.{cases_lt, cond_both, eqb-true, eqb-false, leb-true, leb-false, le-leb, false≢true}
use Rattle.needs.specs.Levels.{Need}
use Rattle.totals.specs.Choices.{Setting}
use Rattle.inclusion_exclusion.specs.Reliability.{Around, Bounded, totals, reliability}
use Rattle.inclusion_exclusion.specs.Bonferroni.{best_low, best_high, low_end, high_end, low, high, bracket, rounded_down, rounded_up, is_sound, wants_attention, Bracketed, Judged}

-- Rounding never falls as its number rises, and leads away from e.

down_holds : (z e : ℤ) → pos 0 ≤ℤ e → z ≤ℤ e → pos (rounded_down z * 2 ^ 16) ≤ℤ e
down_holds (pos n) e least below = omega (arith, ints)
down_holds (negsuc n) e least below = omega (arith, ints)

up_holds : (z e : ℤ) → e ≤ℤ z → e ≤ℤ pos (rounded_up z * 2 ^ 16)
up_holds (pos n) e above = omega (arith, ints)
up_holds (negsuc n) e above = omega (arith, ints)

down_rises : (y z : ℤ) → y ≤ℤ z → rounded_down y ≤ rounded_down z
down_rises (pos m) (pos n) rises = omega (arith, ints)
down_rises (pos m) (negsuc n) rises = omega (arith, ints)
down_rises (negsuc m) z rises = omega (arith, ints)

up_rises : (y z : ℤ) → y ≤ℤ z → rounded_up y ≤ rounded_up z
up_rises (pos m) (pos n) rises = omega (arith, ints)
up_rises (pos m) (negsuc n) rises = omega (arith, ints)
up_rises (negsuc m) z rises = omega (arith, ints)

-- An end of a bracket: at full depth the total, which is e, and before that the best bound so far. `◌⊑◌` is the order in which
-- bounds move towards e: up for low ends, down for high ends.
module _ (◌⊑◌ : ℤ → ℤ → Type 0) (same : (x y : ℤ) → x ≡ y → x ⊑ y) (on : (x y z : ℤ) → x ⊑ y → y ⊑ z → x ⊑ z)
    (t best : ℕ → ℤ) (e : ℤ) (held : ℕ) (full : (depth : ℕ) → held ≤ depth → t depth ≡ e)
    (near : (depth : ℕ) → best depth ⊑ e) (nearer : (depth : ℕ) → best depth ⊑ best (suc depth)) where
  infix 50 ◌⊑◌
  abbrev end : ℕ → ℤ
  end depth = cond (leb held depth) (t depth) (best depth)

  end_near : (depth : ℕ) → end depth ⊑ e
  end_near depth = cond_both (leb held depth) (t depth) (best depth) (λ x. x ⊑ e)
      (λ all. same _ _ (full depth (leb-true held depth all)))
      (λ some. near depth)

  best_nearer : (depth deeper : ℕ) → depth ≤ deeper → best depth ⊑ best deeper
  best_nearer depth zero more = same _ _ (ap best {x = depth} {y = 0} (omega arith))
  best_nearer depth (suc deeper) more = elim (cases_lt deeper depth) [
    | inl last ↦ same _ _ (ap best {x = depth} {y = suc deeper} (omega arith))
    | inr before ↦ on _ _ _ (best_nearer depth deeper before) (nearer deeper)
  ]

  end_nearer : (depth deeper : ℕ) → depth ≤ deeper → end depth ⊑ end deeper
  end_nearer depth deeper more = cond_both (leb held deeper) (t deeper) (best deeper) (λ y. end depth ⊑ y)
      (λ all. on _ _ _ (end_near depth) (same _ _ (sym (full deeper (leb-true held deeper all)))))
      (λ some. cond_both (leb held depth) (t depth) (best depth) (λ x. x ⊑ best deeper)
      (λ all. absurd (omega (arith, leb-true held depth all, leb-false held deeper some)))
      (λ some'. best_nearer depth deeper more))

  ends : ((depth : ℕ) → end depth ⊑ e) × ((depth deeper : ℕ) → depth ≤ deeper → end depth ⊑ end deeper)
  ends = (end_near, end_nearer)

-- one more depth: a total that is looked at lies on its side of e
max_near : (x y e : ℤ) (even : Bool) → x ≤ℤ e → (even ≡ true → y ≤ℤ e) → (x ≤ℤ cond even (int_max x y) x) × (cond even (int_max x y) x ≤ℤ e)
max_near x y e true below looked = let here = looked refl in omega (arith, ints, clamps)
max_near x y e false below looked = omega (arith, ints)

min_near : (x y e : ℤ) (even : Bool) → e ≤ℤ x → (even ≡ false → e ≤ℤ y) → (cond even x (int_min x y) ≤ℤ x) × (e ≤ℤ cond even x (int_min x y))
min_near x y e true above looked = omega (arith, ints)
min_near x y e false above looked = let here = looked refl in omega (arith, ints, clamps)

module _ {t : ℕ → ℤ} {e : ℤ} {held : ℕ} (around : Around t e held) where
  low_step : (r : ℕ) → best_low t r ≤ℤ e → (best_low t r ≤ℤ best_low t (suc r)) × (best_low t (suc r) ≤ℤ e)
  low_step r below = max_near (best_low t r) (t (suc r)) e (eqb (suc r % 2) 0) below (λ b. around.even (suc r) (eqb-true (suc r % 2) 0 b))

  high_step : (r : ℕ) → e ≤ℤ best_high t r → (best_high t (suc r) ≤ℤ best_high t r) × (e ≤ℤ best_high t (suc r))
  high_step r above = min_near (best_high t r) (t (suc r)) e (eqb (suc r % 2) 0) above (λ b. around.odd (suc r) (omega (arith, eqb-false (suc r % 2) 0 b)))

  best_low_near : (r : ℕ) → best_low t r ≤ℤ e
  best_low_near zero = around.least
  best_low_near (suc r) = (low_step r (best_low_near r)).1

  best_high_near : (r : ℕ) → e ≤ℤ best_high t r
  best_high_near zero = around.most
  best_high_near (suc r) = (high_step r (best_high_near r)).1

  low_ends : ((depth : ℕ) → low_end t held depth ≤ℤ e) × ((depth deeper : ℕ) → depth ≤ deeper → low_end t held depth ≤ℤ low_end t held deeper)
  low_ends = ends (λ x y. x ≤ℤ y) (λ x y p. omega (arith, ints)) (λ x y z p q. omega (arith, ints)) t (best_low t) e held around.full best_low_near (λ r. (low_step r (best_low_near r)).0)

  high_ends : ((depth : ℕ) → e ≤ℤ high_end t held depth) × ((depth deeper : ℕ) → depth ≤ deeper → high_end t held deeper ≤ℤ high_end t held depth)
  high_ends = ends (λ x y. y ≤ℤ x) (λ x y p. omega (arith, ints)) (λ x y z p q. omega (arith, ints)) t (best_high t) e held around.full best_high_near (λ r. (high_step r (best_high_near r)).0)

-- Verdicts.

said_sound : (low e : ℤ) (threshold : ℕ) → low ≤ℤ e → is_sound low threshold ≡ true → pos (threshold * 2 ^ 33) ≤ℤ e
said_sound low e threshold below said = omega (arith, ints)

said_attention : (high e : ℤ) (threshold : ℕ) → e ≤ℤ high → wants_attention high threshold ≡ true → e <ℤ pos (threshold * 2 ^ 33)
said_attention high e threshold above said = omega (arith, ints)

-- where both ends are the same total
one_said : (full : Bool) (x low high : ℤ) (threshold : ℕ) → full ≡ true → is_sound (cond full x low) threshold ≡ false → wants_attention (cond full x high) threshold ≡ true
one_said true x low high threshold is not_sound = sym (omega (arith, ints))
one_said false x low high threshold is not_sound = absurd (false≢true is)

pub bracketed : (s : Setting) (ds : List Need) → Bounded s ds → Bracketed s ds
bracketed s ds bounded =
    let lows = low_ends bounded.around in
    let highs = high_ends bounded.around in
    record {
      ends_hold = λ depth. (lows.0 depth, highs.0 depth);
      ends_inside = λ depth deeper more. (lows.1 depth deeper more, highs.1 depth deeper more);
      holds = λ depth. (down_holds (low s ds depth) (reliability s ds) bounded.around.least (lows.0 depth), up_holds (high s ds depth) (reliability s ds) (highs.0 depth));
      inside = λ depth deeper more. (down_rises (low s ds depth) (low s ds deeper) (lows.1 depth deeper more), up_rises (high s ds deeper) (high s ds depth) (highs.1 depth deeper more));
    }

-- the pair at depth 0 bounds the deeper ones
pub pair_within : (s : Setting) (ds : List Need) → Bracketed s ds → (depth : ℕ) → ((bracket s ds depth).0 ≤ 2 ^ 32) × ((bracket s ds depth).1 ≤ 2 ^ 32)
pair_within s ds is depth =
    let first : (bracket s ds 0).1 ≤ 2 ^ 32 = cond_both (leb (length ds) 0) (totals s ds 0) (pos (2 ^ 48)) (λ z. rounded_up z ≤ 2 ^ 32) (λ all. omega arith) (λ some. omega arith) in
    omega (arith, ints, (is.inside 0 depth (omega arith)).1, (is.holds depth).0, (is.holds depth).1)

pub judged : (s : Setting) (ds : List Need) → Bounded s ds → Judged s ds
judged s ds bounded = record {
  sound = λ depth threshold. said_sound (low s ds depth) (reliability s ds) threshold ((low_ends bounded.around).0 depth);
  attention = λ depth threshold. said_attention (high s ds depth) (reliability s ds) threshold ((high_ends bounded.around).0 depth);
  decides = λ depth threshold full. one_said (leb (length ds) depth) (totals s ds depth) (best_low (totals s ds) depth) (best_high (totals s ds) depth) threshold (le-leb (length ds) depth full);
}
