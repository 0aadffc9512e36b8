-- The places after a strike. Assumes nothing.
use Rattle.std.proofs.Common.{◌≡◌, ℕ, suc, ◌-◌, ◌<◌, ◌≤◌, List, ◌++◌, map, length, take, drop, sym, ap, ◌∙◌, append_assoc, arith, take-append-drop, take_at}
use lib.Seq.{drop-append-le}
use Rattle.std.proofs.lemmas.List.Edits.{length-remove}
use Rattle.std.proofs.lemmas.List.{length-take-le, map-append, take-map, drop-map}
use Rattle.std.proofs.lemmas.Bool.{cond_below}
use Rattle.std.specs.List.{remove}
use Rattle.clutters.specs.Clutters.{closed_up}
use Rattle.sheets.specs.Standings.{struck_storage}

module _ {K : Type 0} (places : List K) (held p : ℕ) (within : held ≤ length places) (at : p < held) where
  -- the held needs closed up, and all places behind them
  pub struck_places : (row : List K) → row ≡ closed_up (take held places) p → row ++ drop held places ≡ struck_storage held p places
  struck_places row is =
      let needs = take held places in
      let long : length needs ≡ held = length-take-le held places within in
      let here : p < length needs = omega arith in
      let closed : row ≡ remove needs p ++ drop (held - 1) needs = is ∙ sym (cond_below p (length needs) (remove needs p ++ drop (length needs - 1) needs) needs here) ∙ ap (λ n. remove needs p ++ drop (n - 1) needs) long in
      let behind : drop (held - 1) needs ++ drop held places ≡ drop (held - 1) places =
      sym (drop-append-le (held - 1) needs (drop held places) (omega arith)) ∙ ap (drop (held - 1)) (take-append-drop held places) in
      ap (λ xs. xs ++ drop held places) closed ∙ append_assoc (remove needs p) (drop (held - 1) needs) (drop held places) ∙ ap (λ xs. remove needs p ++ xs) behind

  pub struck_needs : take (held - 1) (struck_storage held p places) ≡ remove (take held places) p
  struck_needs =
      let long : length (take held places) ≡ held = length-take-le held places within in
      let less = length-remove (take held places) p (omega arith) in
      take_at (remove (take held places) p) (drop (held - 1) places) (held - 1) (omega arith)

pub map_one_less : {X Y : Type 0} (f : X → Y) (xs : List X) (p : ℕ) → map f (remove xs p) ≡ remove (map f xs) p
map_one_less f xs p = map-append f (take p xs) (drop (suc p) xs) ∙ ap (λ ys. ys ++ map f (drop (suc p) xs)) (sym (take-map f p xs)) ∙ ap (λ ys. take p (map f xs) ++ ys) (sym (drop-map f (suc p) xs))
