-- More needs and greater weights never lower the reliability. Assumes nothing.
use Rattle.std.proofs.Common.{◌≡◌, ℕ, zero, suc, ◌+◌, ◌-◌, ◌*◌, ◌≤◌, Bool, true, false, cond, ltb, leb, List, [], ◌∷◌, ◌++◌, map, get_or, set, ◌≤ℤ◌, sym, refl, ap, ◌∙◌, mul-le-mul_right, mul_assoc, add-mul, mul-le-mul_left, mul-zero, mul-add, arith}
use mathlib.Core.Path.{fun_ext}
use Rattle.std.proofs.lemmas.Int.{ints}
use Rattle.std.proofs.lemmas.Bool.Decides.{nat_tests}
use Rattle.needs.specs.Levels.{Need}
use Rattle.weights.specs.Chances.{weight, chance, Falling, trimmed}
use Rattle.weights.proofs.Rows.{weight_trimmed, set_row}
use Rattle.weights.proofs.Falling.{trimmed_falling, set_falling}
use Rattle.totals.specs.Choices.{Setting, setting}
use Rattle.inclusion_exclusion.specs.States.{State, fronted, states, meets_from, met, arrives}
use Rattle.inclusion_exclusion.specs.Reliability.{Proper, reliability}
use Rattle.inclusion_exclusion.specs.Changes.{one_more, one_less, after_set, FitsRaiseReliability, StrikesLowerReliability, SetsFollowWeights}
use Rattle.inclusion_exclusion.proofs.Naturals.{summed, reach, just, natural_start, natural_walked, natural_weight, natural_reliability, reach_falls}
use Rattle.inclusion_exclusion.proofs.WholeNumbers.{summed_monotone}
use Rattle.inclusion_exclusion.proofs.Bounds.{natural}

-- f at each number below a bound, added up
abbrev below : (bound : ℕ) → (ℕ → ℕ) → ℕ
below zero f = 0
below (suc l) f = f l + below l f

below_le : (c : ℕ) (f g : ℕ → ℕ) → ((l : ℕ) → f l ≤ g l) → below c f ≤ below c g
below_le zero f g h = omega arith
below_le (suc c) f g h = omega (arith, h c, below_le c f g h)

below_times : (c k : ℕ) (f : ℕ → ℕ) → below c (λ l. k * f l) ≡ k * below c f
below_times zero k f = sym (mul-zero k)
below_times (suc c) k f = ap (λ u. k * f c + u) (below_times c k f) ∙ sym (mul-add k (f c) (below c f))

-- what is held back at the lower step counts in full, and what goes on counts more by the rise
exchanged : (a b h h' : ℕ) → b ≤ a → h ≤ h' → (a - b) * h + b * h' ≡ a * h + b * (h' - h)
exchanged a b h h' le le' =
    omega (arith, add-mul (a - b) b h, mul-add b h (h' - h), ap (λ x. x * h) {x = a - b + b} {y = a} (omega arith), ap (λ x. b * x) {x = h + (h' - h)} {y = h'} (omega arith))

-- where h rises, greater chances of a level or more give no smaller sum
by_parts : (c : ℕ) (g g' h : ℕ → ℕ) → ((l : ℕ) → g (suc l) ≤ g l) → ((l : ℕ) → g' (suc l) ≤ g' l) → ((l : ℕ) → h l ≤ h (suc l)) → ((l : ℕ) → g l ≤ g' l)
    → below c (λ l. (g l - g (suc l)) * h l) + g c * h c ≤ below c (λ l. (g' l - g' (suc l)) * h l) + g' c * h c
by_parts zero g g' h falls falls' rises more = omega (arith, mul-le-mul_right (h 0) (more 0))
by_parts (suc c) g g' h falls falls' rises more =
    omega (
      arith,
      by_parts c g g' h falls falls' rises more,
      exchanged (g c) (g (suc c)) (h c) (h (suc c)) (falls c) (rises c),
      exchanged (g' c) (g' (suc c)) (h c) (h (suc c)) (falls' c) (rises c),
      mul-le-mul_right (h (suc c) - h c) (more (suc c)),
    )

module _ {X : Type 0} where
  summed_append : (xs ys : List X) (f : X → ℕ) → summed (xs ++ ys) f ≡ summed xs f + summed ys f
  summed_append [] ys f = omega arith
  summed_append (x ∷ xs) ys f = omega (arith, summed_append xs ys f)

  summed_map : {Y : Type 0} (e : Y → X) (ys : List Y) (f : X → ℕ) → summed (map e ys) f ≡ summed ys (λ y. f (e y))
  summed_map e [] f = refl
  summed_map e (y ∷ ys) f = ap (λ u. f (e y) + u) (summed_map e ys f)

summed_fronted : (c : ℕ) (xs : List State) (f : State → ℕ) → summed (fronted c xs) f ≡ below c (λ l. summed xs (λ x. f (l ∷ x)))
summed_fronted zero xs f = refl
summed_fronted (suc c) xs f = summed_append (map (λ x. c ∷ x) xs) (fronted c xs) f ∙ omega (arith, summed_map (λ x. c ∷ x) xs f, summed_fronted c xs f)

-- the mean of f over the states of n components from component i on, where g is the chance of a level or more
abbrev mean : (g : ℕ → ℕ → ℕ) (bound i n : ℕ) → (State → ℕ) → ℕ
mean g c i zero f = f []
mean g c i (suc n) f = below c (λ l. (g i l - g i (suc l)) * mean g c (suc i) n (λ x. f (l ∷ x)))

mean_le : (g : ℕ → ℕ → ℕ) (c i n : ℕ) (f f' : State → ℕ) → ((x : State) → f x ≤ f' x) → mean g c i n f ≤ mean g c i n f'
mean_le g c i zero f f' h = h []
mean_le g c i (suc n) f f' h = below_le c _ _ (λ l. mul-le-mul_left (g i l - g i (suc l)) (mean_le g c (suc i) n (λ x. f (l ∷ x)) (λ x. f' (l ∷ x)) (λ x. h (l ∷ x))))

walked_mean : (s : Setting) (i n k : ℕ) (f : State → ℕ) → summed (states s.top n) (λ x. natural_walked s i x k * f x) ≡ k * mean (reach s) (suc s.top) i n f
walked_mean s i zero k f = omega arith
walked_mean s i (suc n) k f =
    let bound : ℕ = suc s.top in
    let rest : ℕ → ℕ = λ l. mean (reach s) bound (suc i) n (λ x. f (l ∷ x)) in
    summed_fronted bound (states s.top n) (λ x. natural_walked s i x k * f x)
    ∙ ap (below bound) (fun_ext (λ l. walked_mean s (suc i) n (k * just s i l) (λ x. f (l ∷ x)) ∙ mul_assoc k (just s i l) (rest l)))
    ∙ below_times bound k (λ l. just s i l * rest l)

-- f never falls where a component's level rises by one
abbrev Rising : (State → ℕ) → Type 0
Rising f = (front : State) (l : ℕ) (x : State) → f (front ++ l ∷ x) ≤ f (front ++ suc l ∷ x)

module _ (g g' : ℕ → ℕ → ℕ) (c : ℕ) (falls : (i l : ℕ) → g i (suc l) ≤ g i l) (falls' : (i l : ℕ) → g' i (suc l) ≤ g' i l)
    (ends : (i : ℕ) → g' i c ≡ 0) (more : (i l : ℕ) → g i l ≤ g' i l) where
  greater_mean : (i n : ℕ) (f : State → ℕ) → Rising f → mean g c i n f ≤ mean g' c i n f
  greater_mean i zero f rises = omega arith
  greater_mean i (suc n) f rises =
      let h : ℕ → ℕ = λ l. mean g' c (suc i) n (λ x. f (l ∷ x)) in
      let rest : below c (λ l. (g i l - g i (suc l)) * mean g c (suc i) n (λ x. f (l ∷ x))) ≤ below c (λ l. (g i l - g i (suc l)) * h l)
      = below_le c _ _ (λ l. mul-le-mul_left (g i l - g i (suc l)) (greater_mean (suc i) n (λ x. f (l ∷ x)) (λ front. rises (l ∷ front)))) in
      let first = by_parts c (g i) (g' i) h (falls i) (falls' i) (λ l. mean_le g' c (suc i) n (λ x. f (l ∷ x)) (λ x. f (suc l ∷ x)) (rises [] l)) (more i) in
      omega (arith, ap (λ u. u * h c) (ends i))

module _ (ds : List Need) where
  -- 1 where a warning arrives
  abbrev arrival : State → ℕ
  arrival x = cond (arrives x ds) 1 0

  reliability_mean : (s : Setting) → natural_reliability s ds ≡ natural_start s * mean (reach s) (suc s.top) 0 s.components arrival
  reliability_mean s =
      ap (summed (states s.top s.components)) (fun_ext (λ x. counted (arrives x ds) (natural_weight s x)))
      ∙ walked_mean s 0 s.components (natural_start s) arrival where
        counted : (b : Bool) (w : ℕ) → cond b w 0 ≡ w * cond b 1 0
        counted true w = omega arith
        counted false w = omega arith

kept_le : (a b w : ℕ) → a ≤ b → cond (ltb 0 a) w 0 ≤ cond (ltb 0 b) w 0
kept_le a b w le = grind (arith, nat_tests)

met_append : (x : State) (ds : List Need) (d : Need) → met x ds ≤ met x (one_more ds d)
met_append x [] d = omega arith
met_append x (e ∷ ds) d = let rest = met_append x ds d in grind (arith, nat_tests)

met_strike : (x : State) (ds : List Need) (p : ℕ) → met x (one_less ds p) ≤ met x ds
met_strike x [] zero = omega arith
met_strike x [] (suc p) = omega arith
met_strike x (d ∷ ds) zero = grind (arith, nat_tests)
met_strike x (d ∷ ds) (suc p) = let rest = met_strike x ds p in grind (arith, nat_tests)

-- the reliabilities as natural numbers
naturally : (s s' : Setting) (ds ds' : List Need) → Proper s → Proper s' → natural_reliability s ds ≤ natural_reliability s' ds' → reliability s ds ≤ℤ reliability s' ds'
naturally s s' ds ds' proper proper' le = rw (natural s ds proper, natural s' ds' proper') (omega (arith, ints))

-- where no state meets fewer needs
more_met : (s : Setting) (ds ds' : List Need) → Proper s → ((x : State) → met x ds ≤ met x ds') → reliability s ds ≤ℤ reliability s ds'
more_met s ds ds' proper more =
    naturally s s ds ds' proper proper
    (summed_monotone (states s.top s.components) _ _ (λ x. kept_le (met x ds) (met x ds') (natural_weight s x) (more x)))

pub fits_raise : FitsRaiseReliability
fits_raise s ds d proper = more_met s ds (one_more ds d) proper (λ x. met_append x ds d)

pub strikes_lower : StrikesLowerReliability
strikes_lower s ds p proper = more_met s (one_less ds p) ds proper (λ x. met_strike x ds p)

meets_rises : (i : ℕ) (front : State) (l : ℕ) (x : State) (d : Need) → meets_from i (front ++ l ∷ x) d ≡ true → meets_from i (front ++ suc l ∷ x) d ≡ true
meets_rises i [] l x d h = grind (arith, nat_tests)
meets_rises i (k ∷ front) l x d h = let rest = meets_rises (suc i) front l x d in grind (arith, nat_tests)

met_rises : (ds : List Need) (front : State) (l : ℕ) (x : State) → met (front ++ l ∷ x) ds ≤ met (front ++ suc l ∷ x) ds
met_rises [] front l x = omega arith
met_rises (d ∷ ds) front l x =
    let first = meets_rises 0 front l x d in
    let rest = met_rises ds front l x in
    grind (arith, nat_tests)

-- chances that are none above the top
within_more : (top l a b : ℕ) → (l ≤ top → a ≤ b) → cond (leb l top) a 0 ≤ cond (leb l top) b 0
within_more top l a b more = grind (arith, nat_tests)

none_above : (top a : ℕ) → cond (leb (suc top) top) a 0 ≡ 0
none_above top a = grind (arith, nat_tests)

-- two cards of which the second has no smaller weight
greater_weights : (n top : ℕ) (card card' : List (List ℕ)) (ds : List Need)
    → Proper (setting n card top) → Proper (setting n card' top)
    → ((i l : ℕ) → l ≤ top → chance card i l ≤ chance card' i l)
    → natural_reliability (setting n card top) ds ≤ natural_reliability (setting n card' top) ds
greater_weights n top card card' ds proper proper' more =
    let s : Setting = setting n card top in
    let s' : Setting = setting n card' top in
    let means = greater_mean (reach s) (reach s') (suc top) (reach_falls s proper) (reach_falls s' proper')
    (λ i. none_above top (chance card' i (suc top))) (λ i l. within_more top l (chance card i l) (chance card' i l) (more i l))
    0 n (arrival ds) (λ front l x. kept_le (met (front ++ l ∷ x) ds) (met (front ++ suc l ∷ x) ds) 1 (met_rises ds front l x)) in
    omega (arith, reliability_mean ds s, reliability_mean ds s', mul-le-mul_left (natural_start s) means)

pub sets_follow_weights : SetsFollowWeights
sets_follow_weights s i row ds proper falls =
    let new : List ℕ = trimmed s.top row in
    let card : List (List ℕ) = set s.card i new in
    let falling : (j : ℕ) → Falling s.top (get_or card j []) = set_falling s.card i new s.top proper.falling (trimmed_falling s.top row falls s.top) in
    let proper' : Proper (after_set s i row) = record { few = proper.few; falling = falling } in
    record {
      raised = λ up. naturally s (after_set s i row) ds ds proper proper' (greater_weights s.components s.top s.card card ds proper proper'
          (λ j. set_row (λ j r. (l : ℕ) → l ≤ s.top → chance s.card j l ≤ weight r l) s.card i new j (λ l le. omega (arith, up l le, weight_trimmed s.top row l le)) (λ l le. omega arith)));
      lowered = λ down. naturally (after_set s i row) s ds ds proper' proper (greater_weights s.components s.top card s.card ds proper' proper
          (λ j. set_row (λ j r. (l : ℕ) → l ≤ s.top → weight r l ≤ chance s.card j l) s.card i new j (λ l le. omega (arith, down l le, weight_trimmed s.top row l le)) (λ l le. omega arith)));
    }
