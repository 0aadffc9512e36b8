use Rattle.inclusion_exclusion.proofs.Bounds.{totals_bound_reliability}
use Rattle.inclusion_exclusion.proofs.Bonferroni.{judged}
use Rattle.inclusion_exclusion.proofs.verdicts_tell_reliability.Goals as goal

pub returns : goal.returns
returns c = record { theorem = λ s ds proper within few. judged s ds (totals_bound_reliability s ds proper within few) }
