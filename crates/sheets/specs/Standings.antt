-- What a sheet holds, and what the accepted calls do to it.
--
-- standing      the held needs by place, the number of components, and the card of chances
-- standing of   so many needs in the first places of storage, with a number of components and a card
-- capacity      how many needs a sheet may hold: as many as places are supplied, at most 12
-- blank         a card without any chance above level 0
use Rattle.std.specs.Prelude.{ℕ, ◌-◌, min, List, [], ◌++◌, length, take, drop, replicate}
use Rattle.inclusion_exclusion.specs.Changes.{one_more, one_less, rewritten}

pub record Standing (K : Type 0) : Type 0 where
  pub needs : List K
  pub components : ℕ
  pub card : List (List ℕ)

abbrev pub standing_of : {K : Type 0} → (held : ℕ) → (storage : List K) → (components : ℕ) → (card : List (List ℕ)) → Standing K
standing_of held storage n card = record { needs = take held storage; components = n; card = card }

abbrev pub capacity : {K : Type 0} → (storage : List K) → ℕ
capacity storage = min 12 (length storage)

abbrev pub blank : List (List ℕ)
blank = replicate 8 (replicate 3 0)

module _ {K : Type 0} where
  abbrev pub opened : Standing K
  opened = record { needs = []; components = 1; card = blank }

  abbrev pub sized : ℕ → Standing K → Standing K
  sized n s = record { needs = s.needs; components = n; card = blank }

  abbrev pub fitted : K → Standing K → Standing K
  fitted d s = record { needs = one_more s.needs d; components = s.components; card = s.card }

  abbrev pub struck : (place : ℕ) → Standing K → Standing K
  struck p s = record { needs = one_less s.needs p; components = s.components; card = s.card }

  -- storage after a strike, with so many needs held: the place that falls free, and all behind it, hold what they held
  abbrev pub struck_storage : (held place : ℕ) → List K → List K
  struck_storage held p storage = one_less (take held storage) p ++ drop (held - 1) storage

  -- a new row for one component; its weights above the top level are noted as 0
  abbrev pub weighted : (top component : ℕ) → List ℕ → Standing K → Standing K
  weighted top i row s = record { needs = s.needs; components = s.components; card = rewritten top i row s.card }
