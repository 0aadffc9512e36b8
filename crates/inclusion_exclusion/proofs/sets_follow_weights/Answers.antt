use Rattle.inclusion_exclusion.proofs.Monotonicity.{sets_follow_weights}
use Rattle.inclusion_exclusion.proofs.sets_follow_weights.Goals as goal

pub returns : goal.returns
returns c = record { theorem = sets_follow_weights }
