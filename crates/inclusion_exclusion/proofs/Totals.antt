-- A total is the sum over states of the state's weight, as often as its count says. Assumes nothing.
use Rattle.std.proofs.Common.{◌≡◌, ℕ, zero, suc, ◌≤◌, max, Bool, true, false, cond, ◌&&◌, leb, List, [], ◌∷◌, ℤ, pos, ◌-ℤ◌, sym, refl, ap, ◌∙◌, arith}
use mathlib.Core.Path.{fun_ext}
use Rattle.std.proofs.lemmas.Bool.Decides.{nat_tests}
use Rattle.needs.specs.Levels.{Need, join}
use Rattle.algebras.specs.Model.{Model}
use Rattle.totals.specs.Choices.{Setting, weight, sum}
use Rattle.totals.specs.Joins.{sum_from, total_from}
use Rattle.totals.proofs.Groups.{minus_zero, alternating_same}
use Rattle.totals.proofs.Sums.{nothing, sum_from_nothing, total_none, total_more}
use Rattle.inclusion_exclusion.specs.States.{State, states, meets_from, meets, met, count, times, state_weight, over_states, Within, TotalsCountStates}
use Rattle.inclusion_exclusion.proofs.Laws.{over, over_plus, over_minus, over_zero, times_plus, times_minus}
use Rattle.inclusion_exclusion.proofs.Counts.{count_none, count_more}
use Rattle.inclusion_exclusion.proofs.States.{weight_over_states}

both_met : (a b c d : Bool) → ((a && b) && (c && d)) ≡ ((a && c) && (b && d))
both_met false b c d = refl
both_met true true c d = refl
both_met true false true d = refl
both_met true false false d = refl

max_within : (a b l : ℕ) → leb (max a b) l ≡ (leb a l && leb b l)
max_within a b l = grind (arith, nat_tests)

-- a state meets a join where it meets both
meets_join : (i : ℕ) (x : State) (j d : Need) → meets_from i x (join j d) ≡ (meets_from i x j && meets_from i x d)
meets_join i [] j d = refl
meets_join i (l ∷ x) j d =
    ap (λ b. b && meets_from (suc i) x (join j d)) (max_within (j i) (d i) l)
    ∙ ap (λ b. (leb (j i) l && leb (d i) l) && b) (meets_join (suc i) x j d)
    ∙ both_met (leb (j i) l) (leb (d i) l) (meets_from (suc i) x j) (meets_from (suc i) x d)

-- every state meets the need that asks for nothing
pub meets_nothing : (i : ℕ) (x : State) → meets_from i x nothing ≡ true
meets_nothing i [] = refl
meets_nothing i (l ∷ x) = ap (λ b. leb 0 l && b) (meets_nothing (suc i) x) ∙ least l where
  least : (l : ℕ) → (leb 0 l && true) ≡ true
  least l = grind (arith, nat_tests)

module _ (m : Model) where
  plus_none : (u : m.Carrier) → m.plus u (m.minus m.zero m.zero) ≡ u
  plus_none u = ap (m.plus u) (minus_zero m m.zero) ∙ m.plus_zero u

  -- how one more need changes what a state adds: a tells whether the needs so far are met, b whether the new one is
  one_more : (a b : Bool) (k r : ℕ) (w : m.Carrier)
      → m.plus (cond a (times m (count k (suc r)) w) m.zero) (m.minus (cond (a && b) w m.zero) (cond (a && b) (times m (count k r) w) m.zero))
      ≡ cond a (times m (count (cond b (suc k) k) (suc r)) w) m.zero
  one_more true true k r w =
      let old = count k (suc r) in
      let less = count k r in
      ap (m.plus (times m old w)) (ap (λ u. m.minus u (times m less w)) (sym (m.plus_zero w)) ∙ sym (times_minus m (pos 1) less w))
      ∙ sym (times_plus m old (pos 1 -ℤ less) w)
      ∙ ap (λ z. times m z w) (sym (count_more k r))
  one_more true false k r w = plus_none (times m (count k (suc r)) w)
  one_more false b k r w = plus_none m.zero

  module _ (s : Setting) where
    -- what a state adds to a total over choices joined to j
    abbrev counted : Need → (depth : ℕ) → List Need → State → m.Carrier
    counted j r ds x = cond (meets x j) (times m (count (met x ds) r) (state_weight m s x)) m.zero

    uncounted : (b : Bool) (z : ℤ) (w : m.Carrier) → z ≡ pos 0 → m.zero ≡ cond b (times m z w) m.zero
    uncounted true z w none = ap (λ k. times m k w) (sym none)
    uncounted false z w none = refl

    none_counted : (j : Need) (r : ℕ) (ds : List Need) → ((x : State) → count (met x ds) r ≡ pos 0) → m.zero ≡ over_states m s (counted j r ds)
    none_counted j r ds none =
        sym (over_zero m (states s.top s.components))
        ∙ ap (over_states m s) (fun_ext (λ x. uncounted (meets x j) (count (met x ds) r) (state_weight m s x) (none x)))

    -- the weight of a state that meets a need
    abbrev held : Need → State → m.Carrier
    held j x = cond (meets x j) (state_weight m s x) m.zero

    counted_more : (j d : Need) (r : ℕ) (ds : List Need) (x : State)
        → m.plus (counted j (suc r) ds x) (m.minus (held (join j d) x) (counted (join j d) r ds x)) ≡ counted j (suc r) (d ∷ ds) x
    counted_more j d r ds x =
        let w = state_weight m s x in
        let k = met x ds in
        ap (λ b. m.plus (counted j (suc r) ds x) (m.minus (cond b w m.zero) (cond b (times m (count k r) w) m.zero))) (meets_join 0 x j d)
        ∙ one_more (meets x j) (meets x d) k r w

    -- needs join what was taken before them
    counts : (j : Need) (r : ℕ) (ds : List Need) → ((i : ℕ) → j i ≤ s.top) → Within s.top ds → total_from m s j r ds ≡ over_states m s (counted j r ds)
    counts j zero ds within-j within = none_counted j zero ds (λ x. count_none (met x ds))
    counts j (suc r) [] within-j within = total_none m s j (suc r) ∙ none_counted j (suc r) [] (λ x. refl)
    counts j (suc r) (d ∷ ds) within-j within =
        let xs = states s.top s.components in
        let both = join j d in
        let within_both : (i : ℕ) → both i ≤ s.top = λ i. let a = within-j i in let b = within.0 i in omega arith in
        let without = counts j (suc r) ds within-j within.1 in
        let alone = weight_over_states m s both within_both in
        let more = counts both r ds within_both within.1 in
        let less : m.minus (weight m s both) (total_from m s both r ds) ≡ over m xs (λ x. m.minus (held both x) (counted both r ds x))
        = ap (λ u. m.minus u (total_from m s both r ds)) alone ∙ ap (m.minus (over m xs (held both))) more ∙ sym (over_minus m xs (held both) (counted both r ds)) in
        total_more m s j d ds r
        ∙ ap (λ u. m.plus u (m.minus (weight m s both) (total_from m s both r ds))) without
        ∙ ap (m.plus (over m xs (counted j (suc r) ds))) less
        ∙ sym (over_plus m xs (counted j (suc r) ds) (λ x. m.minus (held both x) (counted both r ds x)))
        ∙ ap (over m xs) (fun_ext (λ x. counted_more j d r ds x))

pub totals_count_states : (m : Model) → TotalsCountStates m
totals_count_states m s ds depth within =
    alternating_same m (λ k. sum m s (suc k) ds) (λ k. sum_from m s nothing (suc k) ds) depth (λ k h. sym (sum_from_nothing m s (suc k) ds))
    ∙ counts m s nothing depth ds (λ i. omega arith) within
    ∙ ap (over_states m s) (fun_ext (λ x. ap (λ b. cond b (times m (count (met x ds) depth) (state_weight m s x)) m.zero) (meets_nothing 0 x)))
