-- The reliability lies between nothing and certainty, and the totals lie around it. Assumes nothing.
use Rattle.std.proofs.Common.{◌≡◌, ℕ, zero, suc, ◌+◌, ◌-◌, ◌*◌, ◌^◌, ◌≤◌, Bool, true, false, cond, List, [], ◌∷◌, length, ℤ, pos, neg_ℤ, nat_abs, ◌≤ℤ◌, sym, refl, ap, ◌∙◌, subst, arith, pow-add, w64, SFits}
use mathlib.Core.Path.{fun_ext}
use Rattle.std.proofs.lemmas.Int.{ints}
use Rattle.std.proofs.lemmas.Bool.Decides.{nat_tests}
use Rattle.needs.specs.Levels.{Need}
use Rattle.algebras.specs.Model.{Model}
use Rattle.algebras.specs.Residues.{Number, signed}
use Rattle.algebras.specs.Models.{fixed_model}
use Rattle.totals.specs.Choices.{Setting, walked, weight, total}
use Rattle.totals.proofs.Sums.{nothing}
use Rattle.inclusion_exclusion.specs.States.{State, states, met, arrives, count, times, state_weight, over_states, Within}
use Rattle.inclusion_exclusion.specs.WholeNumbers.{exact_model}
use Rattle.inclusion_exclusion.specs.Reliability.{Proper, arriving, reliability, totals, TotalsBoundReliability}
use Rattle.inclusion_exclusion.proofs.Laws.{keeps_times, keeps_over}
use Rattle.inclusion_exclusion.proofs.States.{weight_over_states}
use Rattle.inclusion_exclusion.proofs.Counts.{once, count_even, count_odd, count_full, count_near}
use Rattle.inclusion_exclusion.proofs.Totals.{meets_nothing, totals_count_states}
use Rattle.inclusion_exclusion.proofs.Residues.{wrapped, wrapped_plus, wrapped_pos, signed_wrapped}
use Rattle.inclusion_exclusion.proofs.Naturals.{summed, natural_weight, natural_reliability, exact_weight, fixed_weight}
use Rattle.inclusion_exclusion.proofs.WholeNumbers.{times_pos, times_neg, times_both, times_monotone, summed_monotone, over_pos, over_monotone}

abbrev all : Setting → List State
all s = states s.top s.components

-- each component that asks nothing brings a factor 64
walked_nothing : (s : Setting) (left i j : ℕ) → walked exact_model s left i nothing (pos (2 ^ (6 * j))) ≡ pos (2 ^ (6 * (j + left)))
walked_nothing s zero i j = ap (λ k. pos (2 ^ k)) {x = 6 * j} {y = 6 * (j + 0)} (omega arith)
walked_nothing s (suc left) i j =
    let more : 2 ^ (6 * j) * 64 ≡ 2 ^ (6 * suc j) = sym (pow-add 2 (6 * j) 6) ∙ ap (λ k. 2 ^ k) {x = 6 * j + 6} {y = 6 * suc j} (omega arith) in
    ap (λ k. walked exact_model s left (suc i) nothing (pos k)) more
    ∙ walked_nothing s left (suc i) (suc j)
    ∙ ap (λ k. pos (2 ^ k)) {x = 6 * (suc j + left)} {y = 6 * (j + suc left)} (omega arith)

weight_nothing : (s : Setting) → Proper s → weight exact_model s nothing ≡ pos (2 ^ 48)
weight_nothing s proper =
    walked_nothing s s.components 0 (8 - s.components)
    ∙ ap (λ k. pos (2 ^ k)) {x = 6 * (8 - s.components + s.components)} {y = 48} (omega (arith, proper.few))

all_weights : (s : Setting) → Proper s → summed (states s.top s.components) (natural_weight s) ≡ 2 ^ 48
all_weights s proper =
    sym (ap nat_abs
    (sym (weight_nothing s proper)
    ∙ weight_over_states exact_model s nothing (λ i. omega arith)
    ∙ ap (over_states exact_model s) (fun_ext (λ x. ap (λ b. cond b (state_weight exact_model s x) (pos 0)) (meets_nothing 0 x) ∙ exact_weight s x proper))
    ∙ over_pos (all s) (natural_weight s)))

kept_most : (b : Bool) (w : ℕ) → cond b w 0 ≤ w
kept_most true w = omega arith
kept_most false w = omega arith

natural_most : (s : Setting) (ds : List Need) → Proper s → natural_reliability s ds ≤ 2 ^ 48
natural_most s ds proper =
    omega (
      arith,
      all_weights s proper,
      summed_monotone (all s) (λ x. cond (arrives x ds) (natural_weight s x) 0) (natural_weight s) (λ x. kept_most (arrives x ds) (natural_weight s x)),
    )

met_most : (x : State) (ds : List Need) → met x ds ≤ length ds
met_most x [] = omega arith
met_most x (d ∷ ds) = grind (arith, nat_tests, met_most x ds)

times_once : (m : Model) (b : Bool) (x : m.Carrier) → times m (cond b (pos 1) (pos 0)) x ≡ cond b x m.zero
times_once m true x = m.plus_zero x
times_once m false x = refl

kept_pos : (b : Bool) (w : ℕ) → cond b (pos w) (pos 0) ≡ pos (cond b w 0)
kept_pos true w = refl
kept_pos false w = refl

-- the weight of each state, as often as is said of the needs that it meets
module _ (s : Setting) (ds : List Need) where
  abbrev tally : (ℕ → ℤ) → ℤ
  tally often = over_states exact_model s (λ x. times exact_model (often (met x ds)) (pos (natural_weight s x)))

  tally_monotone : (f g : ℕ → ℤ) → ((k : ℕ) → k ≤ length ds → f k ≤ℤ g k) → tally f ≤ℤ tally g
  tally_monotone f g h =
      over_monotone (all s) (λ x. times exact_model (f (met x ds)) (pos (natural_weight s x))) (λ x. times exact_model (g (met x ds)) (pos (natural_weight s x)))
      (λ x. times_monotone (f (met x ds)) (g (met x ds)) (natural_weight s x) (h (met x ds) (met_most x ds)))

  tally_same : (f g : ℕ → ℤ) → ((k : ℕ) → k ≤ length ds → f k ≡ g k) → tally f ≡ tally g
  tally_same f g h = ap (over_states exact_model s) (fun_ext (λ x. ap (λ z. times exact_model z (pos (natural_weight s x))) (h (met x ds) (met_most x ds))))

  tally_once : tally once ≡ pos (natural_reliability s ds)
  tally_once =
      ap (over_states exact_model s) (fun_ext (λ x. times_once exact_model (arrives x ds) (pos (natural_weight s x)) ∙ kept_pos (arrives x ds) (natural_weight s x)))
      ∙ over_pos (all s) (λ x. cond (arrives x ds) (natural_weight s x) 0)

  module _ (proper : Proper s) where
    tally_alike : (z : ℤ) → tally (λ k. z) ≡ times exact_model z (pos (2 ^ 48))
    tally_alike z =
        sym (keeps_over exact_model exact_model (times exact_model z) (times_both z) (all s) (λ x. pos (natural_weight s x)))
        ∙ ap (times exact_model z) (over_pos (all s) (natural_weight s) ∙ ap pos (all_weights s proper))

    tally_most : (f : ℕ → ℤ) (n : ℕ) → ((k : ℕ) → k ≤ length ds → f k ≤ℤ pos n) → tally f ≤ℤ pos (n * 2 ^ 48)
    tally_most f n h = subst (λ z. tally f ≤ℤ z) (tally_alike (pos n) ∙ times_pos n (2 ^ 48)) (tally_monotone f (λ k. pos n) h)

    tally_least : (f : ℕ → ℤ) (n : ℕ) → ((k : ℕ) → k ≤ length ds → neg_ℤ (pos n) ≤ℤ f k) → neg_ℤ (pos (n * 2 ^ 48)) ≤ℤ tally f
    tally_least f n h = subst (λ z. z ≤ℤ tally f) (tally_alike (neg_ℤ (pos n)) ∙ times_neg n (2 ^ 48)) (tally_monotone (λ k. neg_ℤ (pos n)) f h)

    fixed_tally : (f : ℕ → ℤ) → over_states fixed_model s (λ x. times fixed_model (f (met x ds)) (state_weight fixed_model s x)) ≡ wrapped (tally f)
    fixed_tally f =
        ap (over_states fixed_model s)
        (fun_ext (λ x.
        ap (times fixed_model (f (met x ds))) (fixed_weight s x proper ∙ sym (wrapped_pos (natural_weight s x)))
        ∙ sym (keeps_times exact_model fixed_model wrapped wrapped_plus (f (met x ds)) (pos (natural_weight s x)))))
        ∙ sym (keeps_over exact_model fixed_model wrapped wrapped_plus (all s) (λ x. times exact_model (f (met x ds)) (pos (natural_weight s x))))

    -- what the fixed algebra gives, where the signed reading has room
    read_tally : (x : Number) (f : ℕ → ℤ)
        → x ≡ over_states fixed_model s (λ x. times fixed_model (f (met x ds)) (state_weight fixed_model s x)) → SFits w64 (tally f)
        → signed x ≡ tally f
    read_tally x f same fits = ap signed (same ∙ fixed_tally f) ∙ signed_wrapped (tally f) fits

    reliability_tally : reliability s ds ≡ tally once
    reliability_tally =
        read_tally (arriving fixed_model s ds) once
        (ap (over_states fixed_model s) (fun_ext (λ x. sym (times_once fixed_model (arrives x ds) (state_weight fixed_model s x)))))
        (subst (SFits w64) (sym tally_once) (record { sfits = omega (arith, natural_most s ds proper) }))

    exact_arriving : arriving exact_model s ds ≡ pos (natural_reliability s ds)
    exact_arriving =
        ap (over_states exact_model s) (fun_ext (λ x. ap (λ w. cond (arrives x ds) w (pos 0)) (exact_weight s x proper) ∙ kept_pos (arrives x ds) (natural_weight s x)))
        ∙ over_pos (all s) (λ x. cond (arrives x ds) (natural_weight s x) 0)

    module _ (within : Within s.top ds) (few : length ds ≤ 12) (depth : ℕ) where
      count_fits : SFits w64 (tally (λ k. count k depth))
      count_fits =
          omega (
            arith,
            ints,
            tally_most (λ k. count k depth) 4096 (λ k h. (count_near k depth (omega arith)).1),
            tally_least (λ k. count k depth) 4096 (λ k h. (count_near k depth (omega arith)).0),
          )

      totals_tally : totals s ds depth ≡ tally (λ k. count k depth)
      totals_tally = read_tally (total fixed_model s depth ds) (λ k. count k depth) (totals_count_states fixed_model s ds depth within) count_fits

      exact_tally : total exact_model s depth ds ≡ tally (λ k. count k depth)
      exact_tally =
          totals_count_states exact_model s ds depth within
          ∙ ap (over_states exact_model s) (fun_ext (λ x. ap (times exact_model (count (met x ds) depth)) (exact_weight s x proper)))

pub natural : (s : Setting) (ds : List Need) → Proper s → reliability s ds ≡ pos (natural_reliability s ds)
natural s ds proper = reliability_tally s ds proper ∙ tally_once s ds

same_order : {a b c e : ℤ} → a ≡ b → c ≡ e → b ≤ℤ e → a ≤ℤ c
same_order p q h = omega (arith, ints)

pub totals_bound_reliability : TotalsBoundReliability
totals_bound_reliability s ds proper within few =
    let is = natural s ds proper in
    let known = reliability_tally s ds proper in
    let read : (depth : ℕ) → totals s ds depth ≡ tally s ds (λ k. count k depth) = totals_tally s ds proper within few in
    record {
      around = record {
        least = same_order refl is (omega (arith, ints));
        most = same_order is refl (omega (arith, ints, natural_most s ds proper));
        even = λ depth h. same_order (read depth) known (tally_monotone s ds (λ k. count k depth) once (λ k b. count_even k depth h));
        odd = λ depth h. same_order known (read depth) (tally_monotone s ds once (λ k. count k depth) (λ k b. count_odd k depth h));
        full = λ depth h. read depth ∙ tally_same s ds (λ k. count k depth) once (λ k b. count_full k depth (omega arith)) ∙ sym known;
      };
      exact = λ depth. read depth ∙ sym (exact_tally s ds proper within few depth);
      whole = is ∙ sym (exact_arriving s ds proper);
    }
