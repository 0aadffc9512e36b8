use Rattle.std.proofs.Common.{length}
use Rattle.totals.proofs.chances.Chances.+add_sums.Given as goal

abbrev pub decreases-add_sums : goal.decreases-add_sums
decreases-add_sums g l = length l.needs.now
