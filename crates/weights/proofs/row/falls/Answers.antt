use Rattle.std.proofs.Common.{◌≡◌, ℕ, zero, suc, ◌+◌, ◌<◌, ◌≤◌, Bool, true, false, List, length, get_or, Decides, refl, rules, arith, sym, ap, subst, ◌∙◌, inl, inr, add-one}
use lib.Dec.{leb}
use Rattle.std.specs.List.{IsAllAdjacentAnswer}
use Rattle.std.proofs.lemmas.Bool.{cases_lt, leb-true, leb-false, false≢true, le-leb}
use Rattle.std.proofs.lemmas.Bool.Decides.{Decides-like}
use Rattle.std.proofs.lemmas.List.{get_or_past}
use Rattle.std.proofs.lemmas.List.Sorted.{answers_always}
use Rattle.weights.specs.Chances.{weight, Falling, trimmed}
use Rattle.weights.proofs.Rows.{weight_trimmed, length_trimmed}
use Rattle.weights.proofs.Falling.{trimmed_falling}
use Rattle.weights.proofs.row.falls.Goals as goal

next : (row : List ℕ) (k : ℕ) → get_or row (k + 1) 0 ≡ weight row (suc (suc k))
next row k = rw add-one

-- a whole row falls if its first weight is no more than certainty and no weight is more than the one before
fell : (row : List ℕ) (r : Bool) → length row ≡ 3 → get_or row 0 0 ≤ 64 → IsAllAdjacentAnswer (λ x y b. b ≡ leb y x) row r → Decides r (Falling 3 row)
fell row true long first each = (λ _. falls, λ _. refl)
  where
    falls : Falling 3 row
    falls zero h = first
    falls (suc k) h = omega (arith, leb-true _ _ (sym (each k 0 (omega arith))), next row k)
fell row false long first each =
    let k = each.0 in
    (λ no. absurd (false≢true no), λ falls. absurd (omega (arith, leb-false _ _ (sym (each.2 0)), falls (suc k) (omega arith), next row k)))

-- a row falls up to the top if what trimming leaves of it falls whole
whole : (top : ℕ) (row : List ℕ) → length row ≡ 3 → Falling 3 (trimmed top row) → Falling top row
whole top row long falls l h = elim (cases_lt l 3) [
  | inl within ↦ omega (arith, falls l within, weight_trimmed top row l (omega arith), weight_trimmed top row (suc l) h)
  | inr past ↦ omega (arith, get_or_past row l 0 (omega arith))
]

pub returns-then-held-le-CERTAIN : goal.returns-then-held-le-CERTAIN
returns-then-held-le-CERTAIN c =
    let top = c.args.top in
    let row = c.args.row.now in
    let held = c.trimmed-held.result in
    let is : held ≡ trimmed top row = c.trimmed-held.ensures.answer in
    let long : length row ≡ 3 = search rules in
    let short : length held ≡ 3 = ap length is ∙ length_trimmed top row ∙ long in
    let decides = fell held c.is_sorted_by.result short (search rules) (c.is_sorted_by.ensures.cases (λ x y. leb y x) (answers_always _ _ _ (λ f a r g h. search rules))) in
    record { answer = Decides-like c.is_sorted_by.result (λ f. whole top row long (subst (Falling 3) is f)) (λ f. subst (Falling 3) (sym is) (trimmed_falling top row f 3)) decides }

pub returns-else-held-le-CERTAIN : goal.returns-else-held-le-CERTAIN
returns-else-held-le-CERTAIN c =
    let top = c.args.top in
    let row = c.args.row.now in
    let held = c.trimmed-held.result in
    let is : held ≡ trimmed top row = c.trimmed-held.ensures.answer in
    record { answer = (λ yes. absurd (search (rules, false≢true)), λ falls. le-leb _ _ (subst (Falling 3) (sym is) (trimmed_falling top row falls 3) 0 (omega arith))) }
