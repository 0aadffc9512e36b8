-- What the verdict as defined tells. Assumes nothing.
use Rattle.std.proofs.Common.{arith, rules}
use lib.ListN.{length-map}
use Rattle.brackets.proofs.Told.{verdict_tells, verdict_decides}
use Rattle.sheets.specs.Sheets.{standing}
use Rattle.sheets.proofs.Reliable.{sheet_judged}
use Rattle.sheets.proofs.road.RoadSheet.judge_at.Goals as goal

pub returns : goal.returns
returns g c =
    let told = sheet_judged c.args.self.now.sheet g.met.K.Kind.top_most g.met.K.Kind.levels_most in
    let long = length-map (standing c.args.self.now.sheet).needs g.K.Kind.levels in
    record {
      answer = search rules;
      tells_reliability = verdict_tells _ _ told c.args.depth.of c.args.threshold.of _ (search rules);
      decides_at_full_depth = λ full. verdict_decides _ _ told c.args.depth.of c.args.threshold.of _ (search rules) (omega arith);
    }
