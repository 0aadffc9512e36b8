use Rattle.inclusion_exclusion.proofs.Bounds.{totals_bound_reliability}
use Rattle.inclusion_exclusion.proofs.totals_bound_reliability.Goals as goal

pub returns : goal.returns
returns c = record { theorem = totals_bound_reliability }
