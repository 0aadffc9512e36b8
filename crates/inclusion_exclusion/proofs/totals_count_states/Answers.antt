use Rattle.inclusion_exclusion.proofs.Totals.{totals_count_states}
use Rattle.inclusion_exclusion.proofs.totals_count_states.Goals as goal

pub returns : goal.returns
returns g c = record { theorem = totals_count_states g.A.Algebra.model }
