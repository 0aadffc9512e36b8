use Rattle.std.proofs.Common.{rules}
use Rattle.std.proofs.lemmas.Result.{IfOk-weaker}
use Rattle.reports.specs.Reported.Reported.{as_plain, as_graded}
use Rattle.reports.proofs.whole.report.Goals as goal

pub returns-then-is_graded : goal.returns-then-is_graded
returns-then-is_graded c =
    record { answer = IfOk-weaker _ _ _ (λ _ told. as_graded (search rules) (search rules) told) c.report_as.ensures.answer }

pub returns-else-is_graded : goal.returns-else-is_graded
returns-else-is_graded c =
    record { answer = IfOk-weaker _ _ _ (λ _ told. as_plain (search rules) (search rules) told) c.report_as-else-is_graded.ensures.answer }
