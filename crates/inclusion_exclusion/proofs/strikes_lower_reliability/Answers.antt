use Rattle.inclusion_exclusion.proofs.Monotonicity.{strikes_lower}
use Rattle.inclusion_exclusion.proofs.strikes_lower_reliability.Goals as goal

pub returns : goal.returns
returns c = record { theorem = strikes_lower }
