-- A record that stands first in a list of bytes: its marks, what may be wrong with it, and what it does to every front before it. Assumes nothing.
use Rattle.std.proofs.Common.{◌≡◌, ℕ, ◌+◌, ◌*◌, ◌<◌, ◌≤◌, List, [], ◌∷◌, ◌++◌, map, length, get_or, take, drop, set, None, codes, Option, sym, refl, ap, ◌∙◌, subst, inl, inr, append_assoc, arith, length-append, take-append-drop}
use Rattle.std.specs.List.{between}
use Rattle.sheets.specs.declared.refusal.Refusal.{Refusal}
use Rattle.sheets.specs.declared.refusal.Refusal.TheVariants.{UnknownComponent, RisingWeights, BadReading, EmptyNeed, Comparable, Full, NotHeld, BadDepth, BadThreshold, BadSize, NeedsHeld, WrongMark, Truncated, TrailingBytes}
use Rattle.sheets.specs.Refusals.{number, place}
use Rattle.sheets.specs.Standings.{Standing, fitted, weighted}
use Rattle.sheets.specs.Causes.{Accepted, First, ToldPlace}
use Rattle.sheets.specs.Causes.Call.{set as set_call, fit as fit_call}
use Rattle.sheet_file.specs.Layout.{Form, Record, Spells, row_of}
use Rattle.sheet_file.specs.Layout.Record.{wt, nd}
use Rattle.sheet_file.specs.Reading.{Front, WrongRecord, causes_at}
use Rattle.sheet_file.specs.Reading.Front.{weighed, fit}
use Rattle.sheet_file.specs.Reading.WrongRecord.{weights_cut, need_cut, weights_refused, need_refused}
use Rattle.sheet_file.specs.Steps.{Longer}
use Rattle.sheet_file.proofs.Fronts.{elements, first_elements}

-- the bytes behind two marks, as a slice pattern gives them
abbrev pub behind : List ℕ → List ℕ
behind bytes = between 2 (length bytes) bytes

abbrev pub Marked : (marks bytes : List ℕ) → Type 0
Marked marks bytes = (2 ≤ length bytes) × (elements 2 0 bytes ≡ marks)

module _ (bytes : List ℕ) {marks : List ℕ} where
  pub take_marks : Marked marks bytes → take 2 bytes ≡ marks
  take_marks m = ap (take 2) (first_elements 2 bytes m.0) ∙ m.1

  split_marks : Marked marks bytes → bytes ≡ marks ++ behind bytes
  split_marks m = first_elements 2 bytes m.0 ∙ ap (λ xs. xs ++ behind bytes) m.1

  pub length_marks : Marked marks bytes → length bytes ≡ 2 + length (behind bytes)
  length_marks m = ap length (first_elements 2 bytes m.0) ∙ omega arith

  pub marks_split : take 2 bytes ≡ marks → bytes ≡ marks ++ drop 2 bytes
  marks_split e = sym (take-append-drop 2 bytes) ∙ ap (λ xs. xs ++ drop 2 bytes) e

-- each mark, as the code compares it
pub marks_read : (bytes : List ℕ) {a b : ℕ} → 2 ≤ length bytes → take 2 bytes ≡ a ∷ b ∷ [] → (get_or bytes 0 0 ≡ a) × (get_or bytes 1 0 ≡ b)
marks_read bytes {a} {b} long e =
    let same : elements 2 0 bytes ≡ a ∷ b ∷ [] = sym (ap (take 2) (first_elements 2 bytes long)) ∙ e in
    ((cc), (cc))

module _ {K : Type 0} (f : Form K) where
  -- the record stands first, with the rest behind it
  abbrev pub Stands : Record K → (bytes rest : List ℕ) → Type 0
  Stands r bytes rest = (more : List ℕ) × (bytes ≡ more ++ rest) × (2 ≤ length more) × Spells f r more

  -- what `split_weights` and `split_need` answer of the bytes behind the marks
  abbrev pub WeightsBehind : (bytes : List ℕ) → ℕ → (row rest : List ℕ) → Type 0
  WeightsBehind bytes i row rest = (ws : List ℕ) × (behind bytes ≡ i ∷ ws ++ rest) × (length ws ≡ 2 * f.top) × (row ≡ row_of f.top ws)

  abbrev pub NeedBehind : (bytes : List ℕ) → K → (rest : List ℕ) → Type 0
  NeedBehind bytes d rest = (xs : List ℕ) × (behind bytes ≡ xs ++ rest) × (length xs ≡ f.width) × (d ≡ f.coded xs)

  -- what is to be shown of a record that is carried out
  abbrev pub Taken : (s : Standing K) (places : List K) (bytes rest : List ℕ) → Standing K → List K → Type 0
  Taken s places bytes rest s' places' = (more : List ℕ) × (bytes ≡ more ++ rest) × (2 ≤ length more) × Longer f more s places s' places'

  module _ (bytes : List ℕ) where
    pub stands : {marks rest : List ℕ} (r : Record K) (fields : List ℕ) → Marked marks bytes → behind bytes ≡ fields ++ rest → Spells f r (marks ++ fields) → Stands r bytes rest
    stands {marks} {rest} r fields m split spelt =
        let long : 2 ≤ length (marks ++ fields) = simp length-append (omega (arith, ap length m.1)) in
        (marks ++ fields, split_marks bytes m ∙ ap (λ xs. marks ++ xs) split ∙ sym (append_assoc marks fields rest), long, spelt)

    -- a primed name is the one by which the code goes on
    weights_stand : {i i' : ℕ} {row rest : List ℕ} → Marked (codes "WT") bytes → i' ≡ i → WeightsBehind bytes i row rest → Stands (wt i' row) bytes rest
    weights_stand {i'} {row} {rest} m same (ws, split, long, filed) =
        stands (wt i' row) (i' ∷ ws) m (split ∙ ap (λ n. n ∷ ws ++ rest) (sym same)) (ws, refl, long, filed)

    need_stands : {d d' : K} {rest rest' : List ℕ} → Marked (codes "ND") bytes → d' ≡ d → rest' ≡ rest → NeedBehind bytes d rest → Stands (nd d') bytes rest'
    need_stands {d'} m same left (xs, split, long, coded) =
        stands (nd d') xs m (split ∙ ap (λ ys. xs ++ ys) (sym left)) (xs, refl, long, same ∙ coded)

-- what a front leads to, under other names
pub leads : {K : Type 0} (f : Form K) {storage places places' : List K} {bytes : List ℕ} {records t : ℕ} {s s' : Standing K}
    → Front f storage bytes records t s places → s' ≡ s → places' ≡ places → Front f storage bytes records t s' places'
leads f front e h = rw (e, h) front

-- only a comparable need has a place with its refusal, and weights are not refused for one
no_place : (e : Refusal) → (number e ≡ 5 → ⊥) → place e ≡ None
no_place UnknownComponent h = refl
no_place RisingWeights h = refl
no_place BadReading h = refl
no_place EmptyNeed h = refl
no_place (Comparable p) h = absurd (h refl)
no_place Full h = refl
no_place NotHeld h = refl
no_place BadDepth h = refl
no_place BadThreshold h = refl
no_place BadSize h = refl
no_place NeedsHeld h = refl
no_place WrongMark h = refl
no_place Truncated h = refl
no_place TrailingBytes h = refl

no_comparing : {A B : Type 0} (n : ℕ) → First ((1, A) ∷ (2, B) ∷ []) n → n ≡ 5 → ⊥
no_comparing n (inl (unknown, e)) h = omega arith
no_comparing n (inr (known, inl (rising, e))) h = omega arith
no_comparing n (inr (known, inr (falling, none))) h = none

module _ {K : Type 0} {f : Form K} {s : Standing K} {places : List K} where
  -- each front goes on by a record that is carried out
  taken : (r : Record K) {bytes rest : List ℕ} {s₁ s' : Standing K} {places₁ places' : List K} → Stands f r bytes rest
      → ((more : List ℕ) → Spells f r more → Longer f more s places s₁ places₁) → s' ≡ s₁ → places' ≡ places₁ → Taken f s places bytes rest s' places'
  taken r (more, split, long, spelt) longer e h =
      (more, split, long, λ storage bytes records t front. leads f (longer more spelt storage bytes records t front) e h)

  module _ {bytes : List ℕ} where
    pub weights_short : Marked (codes "WT") bytes → length (behind bytes) < 1 + 2 * f.top → WrongRecord f s places bytes 13 None
    weights_short m short = weights_cut (take_marks bytes m) (omega (arith, length_marks bytes m))

    pub need_short : Marked (codes "ND") bytes → length (behind bytes) < f.width → WrongRecord f s places bytes 13 None
    need_short m short = need_cut (take_marks bytes m) (omega (arith, length_marks bytes m))

    pub weights_wrong : (e : Refusal) {i i' : ℕ} {row rest : List ℕ} → First (causes_at f s places (set_call i' row)) (number e)
        → Marked (codes "WT") bytes → i' ≡ i → WeightsBehind f bytes i row rest → WrongRecord f s places bytes (number e) (place e)
    weights_wrong e {i'} {row} {rest} first m same split =
        let there = weights_stand f bytes m same split in
        subst (WrongRecord f s places bytes (number e)) (sym (no_place e (no_comparing (number e) first)))
        (weights_refused there.0 rest i' row there.1 there.3 first)

    pub need_wrong : {n : ℕ} {p : Option ℕ} {d d' : K} {rest : List ℕ} → First (causes_at f s places (fit_call d')) n
        → ToldPlace (map f.levels s.needs) (f.levels d') p
        → Marked (codes "ND") bytes → d' ≡ d → NeedBehind f bytes d rest → WrongRecord f s places bytes n p
    need_wrong {d'} {rest} first told m same split =
        let there = need_stands f bytes m same refl split in
        need_refused there.0 rest d' there.1 there.3 first told

    pub weights_taken : {i i' : ℕ} {row rest : List ℕ} {s' : Standing K} {places' : List K} → Accepted (causes_at f s places (set_call i' row))
        → s' ≡ weighted f.top i' row s → places' ≡ places
        → Marked (codes "WT") bytes → i' ≡ i → WeightsBehind f bytes i row rest → Taken f s places bytes rest s' places'
    weights_taken {i'} {row} accepted e h m same split =
        taken (wt i' row) (weights_stand f bytes m same split) (λ more spelt storage bytes records t front. weighed front spelt accepted) e h

    pub need_taken : {d d' : K} {rest rest' : List ℕ} {s' : Standing K} {places' : List K} → Accepted (causes_at f s places (fit_call d'))
        → s' ≡ fitted d' s → places' ≡ set places (length s.needs) d'
        → Marked (codes "ND") bytes → d' ≡ d → rest' ≡ rest → NeedBehind f bytes d rest → Taken f s places bytes rest' s' places'
    need_taken {d'} accepted e h m same left split =
        taken (nd d') (need_stands f bytes m same left split) (λ more spelt storage bytes records t front. fit front spelt accepted) e h
