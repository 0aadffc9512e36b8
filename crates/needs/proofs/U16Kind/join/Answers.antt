use Rattle.std.proofs.lemmas.Nat.Bits.{bit_at_or}
use Rattle.needs.proofs.U16Kind.join.Goals as goal

pub returns : goal.returns
returns c = record { answer = bit_at_or c.args.self c.args.other }
