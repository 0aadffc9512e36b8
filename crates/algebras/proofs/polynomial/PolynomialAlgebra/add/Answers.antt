use Rattle.std.proofs.Common.{refl, rules, arith}
use Rattle.algebras.specs.Residues.{plus}
use Rattle.algebras.proofs.Places.{made, at_past_both}
use Rattle.algebras.proofs.polynomial.PolynomialAlgebra.add.Goals as goal

pub returns : goal.returns
returns c = record { answer = made _ _ _ _ (λ k x f' within call. search rules) c.from_fn.ensures.items (λ k h. at_past_both plus c.args.a.of c.args.b.of refl k (omega arith) (omega arith)) }
