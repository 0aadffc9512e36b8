use Rattle.std.proofs.Common.{arith, rules}
use Rattle.sheets.proofs.Settled.{bare_settled}
use Rattle.sheets.proofs.bay.BaySheet.size.Goals as goal

pub invariant_of-sheet : goal.invariant_of-sheet
invariant_of-sheet g c =
    let needs = c.args.self.now.sheet.needs in
    record {
      least = search rules;
      most = search rules;
      falling = search rules;
      settled = bare_settled g.K.Kind.levels g.K.Kind.TOP needs.held needs.places.now c.args.components c.blank-sheet.result.rows (omega arith) c.blank-sheet.ensures.answer;
    }
