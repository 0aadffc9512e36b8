-- Sums over choices: those with the first need and those without it. Assumes nothing.
use Rattle.std.proofs.Common.{◌≡◌, ℕ, suc, List, [], ◌∷◌, ◌++◌, map, sym, ap, ◌∙◌, arith}
use mathlib.Core.Path.{fun_ext}
use mathlib.Core.List.{map-map, map-append}
use native.Mathlib.Nat.{zero-max}
use Rattle.needs.specs.Levels.{Need, join}
use Rattle.algebras.specs.Model.{Model}
use Rattle.totals.specs.Choices.{Setting, choices, joined, weight, added, sum}
use Rattle.totals.specs.Joins.{sum_from, total_from}
use Rattle.totals.proofs.Groups.{zero_plus, alternating_same, alternating_plus, alternating_first, alternating_zero}

abbrev pub nothing : Need
nothing = λ i. 0

pub nothing_join : (d : Need) → join nothing d ≡ d
nothing_join d = fun_ext (λ i. zero-max (d i))

pub join_nothing : (d : Need) → join d nothing ≡ d
join_nothing d = fun_ext (λ i. omega arith)

pub join_assoc : (d e f : Need) → join d (join e f) ≡ join (join d e) f
join_assoc d e f = fun_ext (λ i. omega arith)

pub added_append : (m : Model) (xs ys : List m.Carrier) → added m (xs ++ ys) ≡ m.plus (added m xs) (added m ys)
added_append m [] ys = sym (zero_plus m (added m ys))
added_append m (x ∷ xs) ys = ap (m.plus x) (added_append m xs ys) ∙ sym (m.plus_assoc x (added m xs) (added m ys))

module _ (m : Model) (s : Setting) where
  pub sum_more : (j x : Need) (xs : List Need) (k : ℕ) → sum_from m s j (suc k) (x ∷ xs) ≡ m.plus (sum_from m s (join j x) k xs) (sum_from m s j (suc k) xs)
  sum_more j x xs k =
      let w : List Need → m.Carrier = λ c. weight m s (join j (joined c)) in
      let taken : map w (map (λ c. x ∷ c) (choices k xs)) ≡ map (λ c. weight m s (join (join j x) (joined c))) (choices k xs)
      = map-map w (λ c. x ∷ c) (choices k xs) ∙ ap (λ (f : List Need → m.Carrier). map f (choices k xs)) (fun_ext (λ c. ap (weight m s) (join_assoc j x (joined c)))) in
      ap (added m) (map-append w (map (λ c. x ∷ c) (choices k xs)) (choices (suc k) xs) ∙ ap (λ ys. ys ++ map w (choices (suc k) xs)) taken)
      ∙ added_append m (map (λ c. weight m s (join (join j x) (joined c))) (choices k xs)) (map w (choices (suc k) xs))

  -- the one choice of no need
  pub sum_zero : (j : Need) (xs : List Need) → sum_from m s j 0 xs ≡ weight m s j
  sum_zero j xs = m.plus_zero (weight m s (join j nothing)) ∙ ap (weight m s) (join_nothing j)

  pub sum_from_nothing : (k : ℕ) (ds : List Need) → sum_from m s nothing k ds ≡ sum m s k ds
  sum_from_nothing k ds = ap (λ (f : List Need → m.Carrier). added m (map f (choices k ds))) (fun_ext (λ c. ap (weight m s) (nothing_join (joined c))))

  pub total_none : (j : Need) (r : ℕ) → total_from m s j r [] ≡ m.zero
  total_none j r = alternating_zero m r

  -- the choices without the first need, the first need alone, and, with the other sign, the first need with others
  pub total_more : (j x : Need) (xs : List Need) (r : ℕ) → total_from m s j (suc r) (x ∷ xs) ≡ m.plus (total_from m s j (suc r) xs) (m.minus (weight m s (join j x)) (total_from m s (join j x) r xs))
  total_more j x xs r =
      let with-x : ℕ → m.Carrier = λ k. sum_from m s (join j x) k xs in
      let without : ℕ → m.Carrier = λ k. sum_from m s j (suc k) xs in
      alternating_same m (λ k. sum_from m s j (suc k) (x ∷ xs)) (λ k. m.plus (with-x k) (without k)) (suc r) (λ k h. sum_more j x xs k)
      ∙ alternating_plus m with-x without (suc r)
      ∙ ap (λ u. m.plus u (total_from m s j (suc r) xs)) (alternating_first m with-x r ∙ ap (λ w. m.minus w (total_from m s (join j x) r xs)) (sum_zero (join j x) xs))
      ∙ m.plus_comm (m.minus (weight m s (join j x)) (total_from m s (join j x) r xs)) (total_from m s j (suc r) xs)
