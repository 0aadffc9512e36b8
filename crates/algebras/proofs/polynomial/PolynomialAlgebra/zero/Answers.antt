use mathlib.Core.Path.{fun_ext}
use Rattle.algebras.proofs.Places.{at_zeros}
use Rattle.algebras.proofs.polynomial.PolynomialAlgebra.zero.Goals as goal

pub returns : goal.returns
returns c = record { answer = fun_ext (at_zeros 25 c.from.result c.from.ensures) }
