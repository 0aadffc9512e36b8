use Rattle.std.proofs.Common.{◌∙◌, arith}
use Rattle.algebras.specs.ResidueLaws.{same_number}
use Rattle.algebras.proofs.residue.ResidueSub.sub.Goals as goal

pub returns : goal.returns
returns c = c.from.ensures ∙ same_number (omega arith)
