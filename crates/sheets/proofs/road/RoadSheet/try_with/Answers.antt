-- What the bracket holds of the standing with one component's weights altered. Assumes nothing.
use Rattle.std.proofs.Common.{rules}
use Rattle.brackets.proofs.Told.{pair_holds, deeper_inside, pair_bound}
use Rattle.sheets.proofs.Reliable.{tried_bracketed}
use Rattle.sheets.proofs.road.RoadSheet.try_with.Goals as goal

pub returns-clause-holds_reliability : goal.returns-clause-holds_reliability
returns-clause-holds_reliability g c =
    let around = tried_bracketed c.args.self.now.sheet g.met.K.Kind.top_most g.met.K.Kind.levels_most c.args.component c.args.supposed in
    pair_holds _ _ around c.args.depth _ (search rules)

pub returns-clause-deeper_lies_inside : goal.returns-clause-deeper_lies_inside
returns-clause-deeper_lies_inside g c =
    let around = tried_bracketed c.args.self.now.sheet g.met.K.Kind.top_most g.met.K.Kind.levels_most c.args.component c.args.supposed in
    deeper_inside _ _ around c.args.depth _ (search rules)

pub returns-clause-bound : goal.returns-clause-bound
returns-clause-bound g c =
    let around = tried_bracketed c.args.self.now.sheet g.met.K.Kind.top_most g.met.K.Kind.levels_most c.args.component c.args.supposed in
    pair_bound _ _ around c.args.depth _ (search rules)
