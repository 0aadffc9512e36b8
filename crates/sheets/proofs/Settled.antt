-- A standing without needs and chances is settled, and a settled one stays so over an accepted fit, strike and set; every sheet is settled. Assumes nothing.
use Rattle.std.proofs.Common.{◌≡◌, ℕ, zero, suc, ◌+◌, ◌<◌, ◌≤◌, cond, ltb, ◌⊎◌, List, [], ◌∷◌, ◌++◌, map, length, replicate, get_or, refl, sym, ap, ◌∙◌, subst, inl, inr, ⊎_elim, arith, length-append}
use Rattle.std.specs.List.{remove}
use Rattle.std.proofs.lemmas.List.Edits.{length-remove, get_or-remove_below, get_or-remove_above}
use lib.ListN.{length-map}
use Rattle.std.proofs.lemmas.List.{map-append, get_or_append_left, get_or_push, get_or-set_other, get_or-replicate}
use Rattle.std.proofs.lemmas.Bool.{cases_lt, cases_eq, cond_both, ltb-true, ltb-false}
use Rattle.std.proofs.lemmas.Bool.Decides.{nat_tests}
use mathlib.Core.HLevel.{⊥_prop}
use mathlib.Core.Logic.{∥∥₁_elim}
use Rattle.std.proofs.Math.Nat.{ℕ_set}
use Rattle.std.specs.Coded.{Coded-set, coded_list, coded_ℕ}
use Rattle.needs.specs.declared.Kind.{Ghosts}
use Rattle.sheets.specs.declared.bay.BaySheet.{BaySheet}
use Rattle.sheets.specs.declared.road.RoadSheet.{RoadSheet}
use Rattle.sheets.specs.Sheets.{bay_standing, road_standing}
use Rattle.sheets.proofs.Struck.{map_one_less}
use Rattle.needs.specs.Levels.{Need, Covers, width}
use Rattle.weights.specs.Chances.{trimmed}
use Rattle.weights.proofs.Rows.{set_row as row_set, trimmed_trimmed}
use Rattle.sheets.specs.Standings.{Standing, standing_of, blank, fitted, struck, weighted}
use Rattle.sheets.specs.Causes.{AsksFrom}
use Rattle.sheets.specs.Causes.{Accepted, causes}
use Rattle.sheets.specs.Causes.Call.{set as set_row, fit, strike}
use Rattle.sheets.specs.Settled.{Settled}

-- the components are few, so a need that cannot ask nothing asks something
asks_below : (d : Need) (n : ℕ) → n ≤ width → AsksFrom 0 d ⊎ ((i : ℕ) → i < n → 0 < d i → ⊥)
asks_below d zero h = inr (λ i lt. omega arith)
asks_below d (suc n) h =
    elim (cases_lt 0 (d n)) [
      | inl some ↦ inl (n, omega arith, omega arith, some)
      | inr none ↦ ⊎_elim inl (λ below. inr (λ i lt some. ⊎_elim (λ (same : i ≡ n). omega (arith, ap d same)) (λ other. below i (omega arith) some) (cases_eq i n))) (asks_below d n (omega arith))
    ]

asks : (d : Need) → ((AsksFrom 0 d → ⊥) → ⊥) → AsksFrom 0 d
asks d some = ⊎_elim (λ found. found) (λ none. absurd (some (λ at. none at.0 at.2 at.3))) (asks_below d width (omega arith))

covers_like : {d d' e e' : Need} → d ≡ d' → e ≡ e' → Covers d e → Covers d' e'
covers_like {d} {e'} same same' covers = subst (λ x. Covers x e') same (subst (Covers d) same' covers)

trimmed_blank : (top : ℕ) → trimmed top (replicate 3 0) ≡ replicate 3 0
trimmed_blank zero = refl
trimmed_blank (suc zero) = refl
trimmed_blank (suc (suc zero)) = refl
trimmed_blank (suc (suc (suc top))) = refl

module _ {K : Type 0} (levels : K → Need) (top : ℕ) where
  abbrev need_of : List K → ℕ → Need
  need_of xs p = get_or (map levels xs) p (λ i. 0)

  -- with one need more, each place is an old one or the new one
  place : (xs : List K) (d : K) (p : ℕ) → p < length (xs ++ d ∷ []) → ((p < length xs) × (need_of (xs ++ d ∷ []) p ≡ need_of xs p)) ⊎ ((p ≡ length xs) × (need_of (xs ++ d ∷ []) p ≡ levels d))
  place xs d p h =
      let long = length-append xs (d ∷ []) in
      let old = length-map xs levels in
      let needs = ap (λ ds. get_or ds p (λ i. 0)) (map-append levels xs (d ∷ [])) in
      elim (cases_lt p (length xs)) [
        | inl lt ↦ inl (lt, needs ∙ get_or_append_left (map levels xs) (levels d ∷ []) (λ i. 0) p (omega arith))
        | inr ge ↦ inr (omega arith, needs ∙ get_or_push (map levels xs) (levels d) (λ i. 0) p (omega arith))
      ]

  pub fitted_settled : (capacity : ℕ) (s : Standing K) (d : K) → Accepted (causes levels top capacity s (fit d)) → Settled levels top s → Settled levels top (fitted d s)
  fitted_settled capacity s d (no_other, (some, (apart, room))) settled =
      let old = length-map s.needs levels in
      let at : (p : ℕ) → p < length (s.needs ++ d ∷ []) → _ = place s.needs d in
      record {
        clutter = λ p q h k covers.
            elim (at p h) [
              | inl (lt, is) ↦ elim (at q k) [
                | inl (lt', is') ↦ settled.clutter p q lt lt' (covers_like is is' covers)
                | inr (new', is') ↦ absurd (apart (p, (omega arith, inr (covers_like is is' covers))))
              ]
              | inr (new, is) ↦ elim (at q k) [
                | inl (lt', is') ↦ absurd (apart (q, (omega arith, inl (covers_like is is' covers))))
                | inr (new', is') ↦ new ∙ sym new'
              ]
            ];
        known = λ p h from.
            elim (at p h) [
              | inl (lt, is) ↦ settled.known p lt (subst (AsksFrom s.components) is from)
              | inr (new, is) ↦ no_other (subst (AsksFrom s.components) is from)
            ];
        asking = λ p h.
            elim (at p h) [
              | inl (lt, is) ↦ subst (AsksFrom 0) (sym is) (settled.asking p lt)
              | inr (new, is) ↦ subst (AsksFrom 0) (sym is) (asks (levels d) some)
            ];
        spare = settled.spare;
        neat = settled.neat;
      }

  -- the place that a need stood in before a strike
  abbrev earlier : (struck place : ℕ) → ℕ
  earlier p q = cond (ltb q p) q (q + 1)

  kept : (xs : List K) (p q : ℕ) → p < length xs → q < length (remove xs p) → (earlier p q < length xs) × (need_of (remove xs p) q ≡ need_of xs (earlier p q))
  kept xs p q h k =
      let old = length-map xs levels in
      let less = length-remove xs p h in
      let needs = ap (λ ds. get_or ds q (λ i. 0)) (map_one_less levels xs p) in
      cond_both (ltb q p) q (q + 1) (λ e. (e < length xs) × (need_of (remove xs p) q ≡ need_of xs e))
      (λ is. let lt = ltb-true q p is in (omega arith, needs ∙ get_or-remove_below (map levels xs) p (λ i. 0) q lt (omega arith)))
      (λ is. let ge = ltb-false q p is in (omega arith, needs ∙ get_or-remove_above (map levels xs) p (λ i. 0) q ge (omega arith)))

  pub struck_settled : (capacity : ℕ) (s : Standing K) (p : ℕ) → Accepted (causes levels top capacity s (strike p)) → Settled levels top s → Settled levels top (struck p s)
  struck_settled capacity s p (held, none) settled =
      let at : (q : ℕ) → q < length (remove s.needs p) → _ = λ q. kept s.needs p q (omega arith) in
      record {
        clutter = λ q q' h k covers. let same = settled.clutter (earlier p q) (earlier p q') (at q h).0 (at q' k).0 (covers_like (at q h).1 (at q' k).1 covers) in grind (arith, nat_tests);
        known = λ q h from. settled.known (earlier p q) (at q h).0 (subst (AsksFrom s.components) (at q h).1 from);
        asking = λ q h. subst (AsksFrom 0) (sym (at q h).1) (settled.asking (earlier p q) (at q h).0);
        spare = settled.spare;
        neat = settled.neat;
      }

  pub weighted_settled : (capacity : ℕ) (s : Standing K) (i : ℕ) (row : List ℕ) → Accepted (causes levels top capacity s (set_row i row)) → Settled levels top s → Settled levels top (weighted top i row s)
  weighted_settled capacity s i row (has, falls) settled =
      record {
        clutter = settled.clutter;
        known = settled.known;
        asking = settled.asking;
        spare = λ j from h. get_or-set_other s.card i j (trimmed top row) [] (λ same. has (omega arith)) ∙ settled.spare j from h;
        neat = λ j h. row_set (λ k r. trimmed top r ≡ r) s.card i (trimmed top row) j (trimmed_trimmed top row) (settled.neat j h);
      }

  -- without needs and chances
  pub bare_settled : (held : ℕ) (places : List K) (n : ℕ) (card : List (List ℕ)) → held ≡ 0 → card ≡ blank → ∥ Settled levels top (standing_of held places n card) ∥₁
  bare_settled held places n card none unset = subst (λ k. ∥ Settled levels top (standing_of k places n card) ∥₁) (sym none) (subst (λ rows. ∥ Settled levels top (standing_of 0 places n rows) ∥₁) (sym unset) ∣ bare ∣₁)
    where
      no_row : (i : ℕ) → i < 8 → get_or blank i [] ≡ replicate 3 0
      no_row i h = get_or-replicate 8 i (replicate 3 0) [] h

      bare : Settled levels top (standing_of 0 places n blank)
      bare =
          record {
            clutter = λ p q h. absurd (omega (arith, h));
            known = λ p h. absurd (omega (arith, h));
            asking = λ p h. absurd (omega (arith, h));
            spare = λ i from h. no_row i h;
            neat = λ i h. subst (λ row. trimmed top row ≡ row) (sym (no_row i h)) (trimmed_blank top);
          }

-- A sheet's type keeps the fact between bars, which allow it one proof only. Nothing is lost so: the bars come off.
pub settled_whole : {K : Type 0} {levels : K → Need} {top : ℕ} {s : Standing K} → ∥ Settled levels top s ∥₁ → Settled levels top s
settled_whole kept =
    record {
      clutter = λ p q h k covers. ∥∥₁_elim kept (ℕ_set _ _) (λ t. t.clutter p q h k covers);
      known = λ p h from. ∥∥₁_elim kept ⊥_prop (λ t. t.known p h from);
      asking = λ p h. asks _ (λ none. ∥∥₁_elim kept ⊥_prop (λ t. none (t.asking p h)));
      spare = λ i from h. ∥∥₁_elim kept (rows_set _ _) (λ t. t.spare i from h);
      neat = λ i h. ∥∥₁_elim kept (rows_set _ _) (λ t. t.neat i h);
    }
  where
    rows_set : IsSet (List ℕ)
    rows_set = Coded-set (coded_list coded_ℕ)

-- so every sheet is settled, in the bay and on the road
module _ {K : Type 0} {kind : Ghosts K} where
  pub bay_settled : (s : BaySheet K kind) → Settled kind.levels kind.TOP (bay_standing s)
  bay_settled s = settled_whole s.sheet.settled

  pub road_settled : (s : RoadSheet K kind) → Settled kind.levels kind.TOP (road_standing s)
  road_settled s = settled_whole s.sheet.settled
