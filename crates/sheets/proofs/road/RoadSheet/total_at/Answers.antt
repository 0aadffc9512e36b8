-- The total as defined, as a sum over states. Assumes nothing.
use Rattle.std.proofs.Common.{◌∙◌, rules}
use Rattle.inclusion_exclusion.proofs.Totals.{totals_count_states}
use Rattle.sheets.specs.Sheets.{standing}
use Rattle.sheets.specs.Answers.{setting_of, needs_of}
use Rattle.sheets.proofs.Reliable.{within}
use Rattle.sheets.proofs.road.RoadSheet.total_at.Goals as goal

pub returns-clause-counts_states : goal.returns-clause-counts_states
returns-clause-counts_states g c =
    let levels = g.K.Kind.levels in
    let top = g.K.Kind.TOP in
    let s = standing c.args.self.now.sheet in
    search rules ∙ totals_count_states g.A.Algebra.model (setting_of levels top s) (needs_of levels top s) c.args.depth.of (within levels top g.met.K.Kind.levels_most s.needs)
