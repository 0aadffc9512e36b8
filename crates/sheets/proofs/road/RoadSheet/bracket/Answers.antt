use Rattle.sheets.proofs.Reliable.{sheet_bounded}
use Rattle.sheets.proofs.road.RoadSheet.bracket.Goals as goal

pub returns-in_err-try_from-clause-totals_bound_reliability : goal.returns-in_err-try_from-clause-totals_bound_reliability
returns-in_err-try_from-clause-totals_bound_reliability g c = sheet_bounded c.args.self.now.sheet g.met.K.Kind.top_most g.met.K.Kind.levels_most
