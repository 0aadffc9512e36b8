-- Totals held in a list, place k for depth k + 1, and the best ends that totals give.
--
-- reads as       the signed reading at place k is the total of depth k + 1
-- best so far    the low and the high end at a depth that is not full
use Rattle.std.specs.Prelude.{◌≡◌, ℕ, suc, ◌<◌, List, length, ℤ, slice_index_or}
use Rattle.algebras.specs.Residues.{signed}
use Rattle.algebras.specs.Meanings.{meaning}
use Rattle.algebras.specs.declared.residue.Residue.{Residue}
use Rattle.inclusion_exclusion.specs.Bonferroni.{best_low, best_high}
use Rattle.brackets.specs.Brackets.{both}
use Rattle.brackets.specs.declared.ends.Ends.{Ends}

abbrev pub ReadsAs : List Residue → (total : ℕ → ℤ) → Type 0
ReadsAs values t = (k : ℕ) (d : Residue) → k < length values → signed (meaning (slice_index_or values k d)) ≡ t (suc k)

abbrev pub best_so_far : (total : ℕ → ℤ) (depth : ℕ) → Ends
best_so_far t depth = both (best_low t depth) (best_high t depth)
