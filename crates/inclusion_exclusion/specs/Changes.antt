-- What changes of a sheet do to its reliability.
--
-- raises     a new row of weights raises when no weight up to the top falls
-- lowers     and lowers when none rises
-- follows    the reliability never falls with a set that raises, and never rises with one that lowers
-- strike     takes one need out of a sheet
-- rewritten  a card with a new row for one component; the row's weights above the top are noted as 0
use Rattle.std.specs.Prelude.{ℕ, suc, ◌≤◌, List, [], ◌∷◌, ◌++◌, take, drop, ◌≤ℤ◌, slice_index_or, slice_set}
use Rattle.needs.specs.Levels.{Need}
use Rattle.weights.specs.Chances.{weight, Falling, trimmed}
use Rattle.totals.specs.Choices.{Setting, setting}
use Rattle.inclusion_exclusion.specs.Reliability.{reliability, Proper}

abbrev pub Raises : (top : ℕ) (old new : List ℕ) → Type 0
Raises top old new = (l : ℕ) → l ≤ top → weight old l ≤ weight new l

abbrev pub Lowers : (top : ℕ) (old new : List ℕ) → Type 0
Lowers top old new = (l : ℕ) → l ≤ top → weight new l ≤ weight old l

abbrev pub rewritten : (top component : ℕ) → List ℕ → List (List ℕ) → List (List ℕ)
rewritten top i row card = slice_set card i (trimmed top row)

-- the needs with one more in the next place
abbrev pub one_more : {X : Type 0} → List X → X → List X
one_more ds d = ds ++ d ∷ []

abbrev pub FitsRaiseReliability : Type 0
FitsRaiseReliability = (s : Setting) (ds : List Need) (d : Need) → Proper s → reliability s ds ≤ℤ reliability s (one_more ds d)

-- the needs without the one in a place; those behind it move down by one
abbrev pub one_less : {X : Type 0} → List X → (place : ℕ) → List X
one_less ds p = take p ds ++ drop (suc p) ds

abbrev pub StrikesLowerReliability : Type 0
StrikesLowerReliability = (s : Setting) (ds : List Need) (p : ℕ) → Proper s → reliability s (one_less ds p) ≤ℤ reliability s ds

module _ (s : Setting) (i : ℕ) (row : List ℕ) where
  abbrev pub after_set : Setting
  after_set = setting s.components (rewritten s.top i row s.card) s.top

  pub record Follows (ds : List Need) : Type 0 where
    pub raised : Raises s.top (slice_index_or s.card i []) row → reliability s ds ≤ℤ reliability after_set ds
    pub lowered : Lowers s.top (slice_index_or s.card i []) row → reliability after_set ds ≤ℤ reliability s ds

abbrev pub SetsFollowWeights : Type 0
SetsFollowWeights = (s : Setting) (i : ℕ) (row : List ℕ) (ds : List Need) → Proper s → Falling s.top row → Follows s i row ds
