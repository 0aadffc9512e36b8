use mathlib.Core.Path.{fun_ext}
use Rattle.algebras.proofs.Places.{at_one}
use Rattle.algebras.proofs.polynomial.PolynomialAlgebra.start.Goals as goal

pub returns : goal.returns
returns c = record { answer = fun_ext (at_one 24 c.from.result c.from-of.result c.from.ensures c.from-of.ensures) }
