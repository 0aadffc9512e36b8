use Rattle.std.proofs.Common.{arith}
use Rattle.sheets.proofs.Outcomes.{set_falling, set_settled, set_raises, set_lowers}
use Rattle.sheets.proofs.bay.BaySheet.set.Goals as goal

pub invariant_of-sheet : goal.invariant_of-sheet
invariant_of-sheet g c =
    let sheet = c.args.self.now.sheet in
    let falls = c.falls.ensures.answer.0 c.if-not-falls.false in
    record {
      least = sheet.least;
      most = sheet.most;
      falling = set_falling sheet c.args.row (omega arith) c.TOP-top.ensures falls c.trimmed.ensures.answer c.write.ensures.after;
      settled = set_settled sheet c.args.row (omega arith) c.TOP-top.ensures falls c.trimmed.ensures.answer c.write.ensures.after;
    }

pub returns-clause-raising : goal.returns-clause-raising
returns-clause-raising g c =
    set_raises c.args.self.now.sheet c.args.row (omega arith) c.TOP-top.ensures (c.falls.ensures.answer.0 c.if-not-falls.false) c.trimmed.ensures.answer c.write.ensures.after g.met.K.Kind.top_most

pub returns-clause-lowering : goal.returns-clause-lowering
returns-clause-lowering g c =
    set_lowers c.args.self.now.sheet c.args.row (omega arith) c.TOP-top.ensures (c.falls.ensures.answer.0 c.if-not-falls.false) c.trimmed.ensures.answer c.write.ensures.after g.met.K.Kind.top_most
