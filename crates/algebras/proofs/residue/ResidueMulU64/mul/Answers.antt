use Rattle.std.proofs.Common.{◌^◌, ◌∙◌, arith}
use Rattle.std.proofs.lemmas.Nat.{mul-mod_first}
use Rattle.algebras.specs.ResidueLaws.{same_number}
use Rattle.algebras.proofs.residue.ResidueMulU64.mul.Goals as goal

pub returns : goal.returns
returns c = c.from.ensures ∙ same_number (omega (arith, mul-mod_first c.args.self.bits c.args.factor (2 ^ 64)))
