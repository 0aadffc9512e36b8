use Rattle.std.proofs.Common.{arith, rules}
use Rattle.sheets.proofs.Settled.{bare_settled}
use Rattle.sheets.proofs.bay.BaySheet.open.Goals as goal

pub invariant_of-result : goal.invariant_of-result
invariant_of-result g c =
    record {
      least = omega arith;
      most = omega arith;
      falling = search rules;
      settled = bare_settled g.K.Kind.levels g.K.Kind.TOP c.open.result.held c.open.result.places.now _ c.blank.result.rows c.open.ensures.standing c.blank.ensures.answer;
    }
