use Rattle.std.proofs.Common.{◌≡◌, ◌++◌, ◌-◌, string_bytes}
use Rattle.sheets.specs.Answers.{road_ends}
use Rattle.sheets.specs.Sheets.{road_standing}
use Rattle.reports.specs.Lines.{depth_lines}
use Rattle.reports.proofs.lines.push_depths.Given as goal

abbrev pub invariant-loop-number : goal.invariant-loop-number
invariant-loop-number g l =
    string_bytes l.text ≡ string_bytes l.initial.text ++ depth_lines (road_ends g.K.Kind.levels g.K.Kind.TOP (road_standing l.sheet)) l.threshold.of (l.number - 1)
