use Rattle.std.proofs.Common.{sym, rules}
use Rattle.std.proofs.lemmas.List.{set_past}
use Rattle.calls.proofs.list.keep.Goals as goal

pub returns-else-place-answers : goal.returns-else-place-answers
returns-else-place-answers g c = record { after = sym (set_past c.args.answers.now c.args.place c.args.answer (search rules)) }
