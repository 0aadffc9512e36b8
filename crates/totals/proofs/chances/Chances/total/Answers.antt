use Rattle.std.proofs.Common.{suc, map, ◌∙◌}
use Rattle.totals.specs.Choices.{setting, sum}
use Rattle.totals.specs.Joins.{sum_from}
use Rattle.totals.proofs.Groups.{alternating_same}
use Rattle.totals.proofs.Sums.{sum_from_nothing}
use Rattle.totals.proofs.chances.Chances.total.Goals as goal

pub returns : goal.returns
returns g c =
    let m = g.A.Algebra.model in
    let s = setting c.args.self.components c.args.self.rows.now g.K.Kind.TOP in
    let ds = map g.K.Kind.levels c.args.needs.now in
    record {
      answer = c.total_from.ensures.answer
          ∙ alternating_same m (λ k. sum_from m s (λ i. 0) (suc k) ds) (λ k. sum m s (suc k) ds) c.args.depth (λ k h. sum_from_nothing m s (suc k) ds);
    }
