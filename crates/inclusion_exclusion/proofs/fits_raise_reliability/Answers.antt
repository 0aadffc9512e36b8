use Rattle.inclusion_exclusion.proofs.Monotonicity.{fits_raise}
use Rattle.inclusion_exclusion.proofs.fits_raise_reliability.Goals as goal

pub returns : goal.returns
returns c = record { theorem = fits_raise }
