use Rattle.std.proofs.Common.{ℕ, List, map, subst, MatchOption}
use Rattle.clutters.specs.Clutters.{SameAt, Lowest}
use Rattle.sheets.proofs.road.RoadSheet.find.Goals as goal

pub returns : goal.returns
returns g c =
    let levels = g.K.Kind.levels in
    let d = levels c.args.need in
    record {
      answer = subst (λ (xs : List g.row.K.Denot). MatchOption c.same_place.result ((p : ℕ) → SameAt (map levels xs) d p → ⊥) (Lowest (SameAt (map levels xs) d))) c.needs.ensures.answer c.same_place.ensures.answer;
    }
