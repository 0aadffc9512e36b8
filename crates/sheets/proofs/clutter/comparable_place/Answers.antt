use Rattle.std.proofs.Common.{rules, of_calls}
use Rattle.sheets.specs.Causes.{Comparable}
use Rattle.clutters.proofs.Places.{lowest_from_position}
use Rattle.sheets.proofs.clutter.comparable_place.Goals as goal

pub returns : goal.returns
returns g c =
    record { answer = lowest_from_position g.K.Kind.levels (Comparable (g.K.Kind.levels c.args.need)) c.args.held.now _ _ c.position.result c.position.ensures.ran (cc) (λ x b q called. search (rules, of_calls)) }
