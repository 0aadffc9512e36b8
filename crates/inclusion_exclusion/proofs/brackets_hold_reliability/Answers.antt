use Rattle.inclusion_exclusion.proofs.Bounds.{totals_bound_reliability}
use Rattle.inclusion_exclusion.proofs.Bonferroni.{bracketed}
use Rattle.inclusion_exclusion.proofs.brackets_hold_reliability.Goals as goal

pub returns : goal.returns
returns c = record { theorem = λ s ds proper within few. bracketed s ds (totals_bound_reliability s ds proper within few) }
