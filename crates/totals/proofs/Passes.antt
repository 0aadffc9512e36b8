-- What one pass over the choices adds at each place of a list of values, place k for the choices of k + 1 needs.
-- Assumes nothing.
use Rattle.std.proofs.Common.{◌≡◌, ℕ, zero, suc, ◌+◌, ◌%◌, ◌<◌, ◌≤◌, cond, eqb, ◌≢◌, List, ◌∷◌, length, get_or, set, sym, ap, ◌∙◌, add-one, arith, get_or-set_other, get_or-set_same, below_more}
use Rattle.std.proofs.lemmas.List.{get_or_default}
use Rattle.needs.specs.Levels.{Need, join}
use Rattle.algebras.specs.Model.{Model}
use Rattle.totals.specs.Choices.{Setting, weight, alternating}
use Rattle.totals.specs.Joins.{sum_from}
use Rattle.totals.proofs.Sums.{sum_more, sum_zero}

module _ {V : Type 0} (m : Model) (s : Setting) (means : V → m.Carrier) where
  abbrev pub Adds : Need → List Need → List V → List V → Type 0
  Adds j ds before after = (k : ℕ) (d : V) → k < length before → means (get_or after k d) ≡ m.plus (means (get_or before k d)) (sum_from m s j (suc k) ds)

  -- x + w, and then + b, is x + (w + b)
  joint : (x w b y z : m.Carrier) → y ≡ m.plus x w → z ≡ m.plus y b → z ≡ m.plus x (m.plus w b)
  joint x w b y z first then = then ∙ ap (λ u. m.plus u b) first ∙ m.plus_assoc x w b

  -- v for the first need alone, ys for it with others, and then what the other needs add by themselves
  pub adds_first : (j x : Need) (xs : List Need) (a : V) (us : List V) (v : V) (ys after : List V)
      → length ys ≡ length us
      → means v ≡ m.plus (means a) (weight m s (join j x))
      → Adds (join j x) xs us ys
      → Adds j xs (v ∷ ys) after
      → Adds j (x ∷ xs) (a ∷ us) after
  adds_first j x xs a us v ys after long own with-x without zero d h =
      joint (means a) (sum_from m s (join j x) 0 xs) (sum_from m s j 1 xs) (means v) (means (get_or after 0 d))
      (own ∙ ap (m.plus (means a)) (sym (sum_zero m s (join j x) xs))) (without 0 d (omega arith))
      ∙ ap (m.plus (means a)) (sym (sum_more m s j x xs 0))
  adds_first j x xs a us v ys after long own with-x without (suc k) d h =
      joint (means (get_or us k d)) (sum_from m s (join j x) (suc k) xs) (sum_from m s j (suc (suc k)) xs) (means (get_or ys k d)) (means (get_or after (suc k) d))
      (with-x k d (omega arith)) (without (suc k) d (omega arith))
      ∙ ap (m.plus (means (get_or us k d))) (sym (sum_more m s j x xs (suc k)))

module _ {V : Type 0} (m : Model) (means : V → m.Carrier) where
  -- totals at the first i places, the sums as they were from there on, and the last total
  pub record Accumulated (sums : List V) (i : ℕ) (total : V) (values : List V) : Type 0 where
    pub last : (d : V) → means total ≡ alternating m (λ j. means (get_or sums j d)) i
    pub before : (k : ℕ) → k < i → (d : V) → means (get_or values k d) ≡ alternating m (λ j. means (get_or sums j d)) (suc k)
    pub behind : (k : ℕ) (d : V) → i ≤ k → get_or values k d ≡ get_or sums k d

  pub accumulate_more : (sums : List V) (i : ℕ) (total e next : V) (values : List V) → i < length values
      → Accumulated sums i total values
      → means next ≡ cond (eqb (i % 2) 0) (m.plus (means total) (means (get_or values i e))) (m.minus (means total) (means (get_or values i e)))
      → Accumulated sums (i + 1) next (set values i next)
  accumulate_more sums i total e next values within so_far step =
      let value = get_or values i e in
      let here : (d : V) → means next ≡ alternating m (λ j. means (get_or sums j d)) (suc i)
      = λ d. step ∙ ap (λ x. cond (eqb (i % 2) 0) (m.plus x (means value)) (m.minus x (means value))) (so_far.last d)
      ∙ ap (λ y. cond (eqb (i % 2) 0) (m.plus (alternating m (λ j. means (get_or sums j d)) i) y) (m.minus (alternating m (λ j. means (get_or sums j d)) i) y))
      (ap means (get_or_default values i e d within ∙ so_far.behind i d (omega arith))) in
      record {
        last = λ d. rw add-one (here d);
        before = below_more (λ k. (d : V) → means (get_or (set values i next) k d) ≡ alternating m (λ j. means (get_or sums j d)) (suc k)) i
            (λ k h d. let ne : k ≢ i = omega arith in rw get_or-set_other (so_far.before k h d))
            (λ d. rw get_or-set_same (here d));
        behind = λ k d h. let ne : k ≢ i = omega arith in rw get_or-set_other (so_far.behind k d (omega arith));
      }
