use Rattle.std.proofs.Common.{refl, arith, rules}
use Rattle.sheets.proofs.Settled.{bare_settled}
use Rattle.sheets.proofs.bay.BaySheet.reopen.Goals as goal

pub invariant_of-sheet-2 : goal.invariant_of-sheet-2
invariant_of-sheet-2 g c =
    record {
      least = omega arith;
      most = omega arith;
      falling = search rules;
      settled = bare_settled g.K.Kind.levels g.K.Kind.TOP 0 c.args.self.now.sheet.needs.places.now _ c.blank-sheet.result.rows refl c.blank-sheet.ensures.answer;
    }
