use Rattle.std.proofs.Common.{rules, arith}
use Rattle.algebras.proofs.Places.{moved}
use Rattle.algebras.proofs.polynomial.PolynomialAlgebra.step.Goals as goal

pub returns : goal.returns
returns c =
    record { answer = moved c.args.level c.saturating_sub-kept.result c.from-of.result c.args.value.of c.from-of.ensures (search rules) (omega (arith, c.saturating_sub-kept.ensures, c.from.ensures)) c.copy_from_slice.new.self c.copy_from_slice.ensures.after }
