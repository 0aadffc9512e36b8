-- What the pair as defined holds. Assumes nothing.
use Rattle.std.proofs.Common.{rules}
use Rattle.brackets.proofs.Told.{pair_holds, deeper_inside, pair_bound}
use Rattle.sheets.proofs.Reliable.{sheet_bounded, sheet_bracketed}
use Rattle.sheets.proofs.road.RoadSheet.bracket_at.Goals as goal

pub returns : goal.returns
returns g c =
    let around = sheet_bracketed c.args.self.now.sheet g.met.K.Kind.top_most g.met.K.Kind.levels_most in
    record {
      answer = search rules;
      holds_reliability = pair_holds _ _ around c.args.depth.of _ (search rules);
      deeper_lies_inside = deeper_inside _ _ around c.args.depth.of _ (search rules);
      bound = pair_bound _ _ around c.args.depth.of _ (search rules);
      totals_bound_reliability = sheet_bounded c.args.self.now.sheet g.met.K.Kind.top_most g.met.K.Kind.levels_most;
    }
