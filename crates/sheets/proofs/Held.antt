-- Held needs by place. Assumes nothing.
use Rattle.std.proofs.Common.{◌≡◌, ℕ, ◌+◌, ◌-◌, ◌<◌, ◌≤◌, Bool, true, false, List, map, length, get_or, take, MatchBool, Decides, refl, ◌∙◌, subst, arith}
use lib.ListN.{length-map}
use Rattle.std.proofs.lemmas.List.{length-take-le}
use Rattle.std.proofs.lemmas.List.FromFn.{length-range_with_len, get_or-range_with_len}
use Rattle.std.proofs.lemmas.Bool.{false≢true}
use Rattle.std.specs.List.{HoldsAt, AllWithin, range_with_len}
use Rattle.needs.specs.Levels.{Need}
use Rattle.sheets.specs.Causes.{AsksFrom}

module _ {K : Type 0} (levels : K → Need) where
  pub held_length : (held : ℕ) (places : List K) → held ≤ length places → length (map levels (take held places)) ≡ held
  held_length held places h = length-map (take held places) levels ∙ length-take-le held places h

-- what a search for a component that is asked something answers
pub asks_from_cases : (d : Need) (first : ℕ) (r : Bool)
    → let all = range_with_len first (16 - first) in MatchBool r ((k : ℕ) × (k < length all) × HoldsAt (λ i. 0 < d i) all k) (AllWithin (λ i. d i ≤ 0) all 0 (length all))
    → Decides r (AsksFrom first d)
asks_from_cases d first true (k, lt, some) =
    let long = length-range_with_len first (16 - first) in
    let at = get_or-range_with_len first (16 - first) k 0 (omega arith) in
    (λ _. (first + k, omega arith, omega arith, subst (λ i. 0 < d i) at (some 0)), λ _. refl)
asks_from_cases d first false none =
    let long = length-range_with_len first (16 - first) in
    let never : AsksFrom first d → ⊥ = λ h.
    let at : get_or (range_with_len first (16 - first)) (h.0 - first) 0 ≡ h.0 = get_or-range_with_len first (16 - first) (h.0 - first) 0 (omega (arith, h.1, h.2)) ∙ omega (arith, h.1) in
    let least : d h.0 ≤ 0 = subst (λ i. d i ≤ 0) at (none (h.0 - first) 0 (omega arith) (omega (arith, h.1, h.2))) in
    omega (arith, h.3, least)
    in
    (λ e. absurd (false≢true e), λ h. absurd (never h))
