use Rattle.std.proofs.Common.{length}
use Rattle.totals.proofs.chances.Chances.+total_from.Given as goal

abbrev pub decreases-total_from : goal.decreases-total_from
decreases-total_from g l = length l.needs.now
