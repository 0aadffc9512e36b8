use Rattle.std.proofs.Common.{rules, ◌≡◌, ◌++◌, string_bytes, ◌-◌, ◌+◌, arith, ap, ◌∙◌}
use Rattle.sheets.specs.Answers.{road_ends}
use Rattle.sheets.specs.Sheets.{road_standing}
use Rattle.reports.specs.Lines.{depth_line, depth_lines}
use Rattle.reports.proofs.Texts.{depths_more}
use Rattle.reports.proofs.lines.push_depths.Goals as goal

pub loop-number-preserved : goal.loop-number-preserved
loop-number-preserved g c =
    let k = c.loop-number.number in
    let ends = road_ends g.K.Kind.levels g.K.Kind.TOP (road_standing c.args.sheet.now) in
    let t = c.args.threshold.of in
    let same : c.in-Ok.depth.of ≡ k = search rules in
    let line : string_bytes c.push_depth.new.text ≡ string_bytes c.loop-number.text ++ depth_line (ends k) t k
    = c.in_ok-push_depth.ensures.after ∙ ap (λ n. string_bytes c.loop-number.text ++ depth_line (ends n) t n) same in
    line ∙ ap (λ text. text ++ depth_line (ends k) t k) c.loop-number.invariant ∙ depths_more ends t k (string_bytes c.args.text.now) (omega arith) ∙ ap (λ n. string_bytes c.args.text.now ++ depth_lines ends t n) {x = k} {y = k + 1 - 1} (omega arith)
