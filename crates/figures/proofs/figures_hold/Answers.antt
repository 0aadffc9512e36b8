-- Each figure is computed. Assumes nothing.
use Rattle.std.proofs.Common.{refl}
use Rattle.figures.proofs.figures_hold.Goals as goal

pub returns : goal.returns
returns c = record {
  theorem = (refl, (refl, (refl, (refl, (refl, (refl, (refl, (refl, (refl, (refl, (refl, (refl, (refl, (refl, (refl, (refl, (refl, (refl, (refl, (refl, tt))))))))))))))))))));
  answer = refl;
}
