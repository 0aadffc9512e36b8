use Rattle.std.proofs.Common.{ap, ◌∙◌, subst}
use Rattle.std.proofs.lemmas.Result.{IfOk-weaker}
use Rattle.sheets.specs.Sheets.{bay_standing, bay_storage}
use Rattle.sheet_file.specs.Forms.{form_of}
use Rattle.sheet_file.specs.Faults.{Read, Faulty}
use Rattle.sheet_file.specs.Kinds.{word}
use Rattle.reports.specs.Lines.{report_text}
use Rattle.reports.specs.Reported.ReportedAs.{whole, faulty}
use Rattle.reports.proofs.whole.report_as.Goals as goal

pub returns-in-Ok : goal.returns-in-Ok
returns-in-Ok g c =
    let f = form_of g.K.Kind g.K.Filed in
    let t = c.in-Ok.threshold.of in
    let s = bay_standing c.read.new.sheet in
    let storage = bay_storage c.read.new.sheet in
    let was_read = subst (λ start. Read f start c.args.input.now t s storage) c.open-sheet.ensures.storage c.in-Ok.ensures.answer in
    let same = ap (λ x. report_text g.K.Kind.levels g.K.Kind.TOP x (word c.args.kind) t) c.put_out.ensures.standing in
    record { answer = IfOk-weaker _ _ _ (λ _ told. whole t s storage was_read (told ∙ same)) c.sheet_report.ensures.answer }

pub returns-in-Err : goal.returns-in-Err
returns-in-Err g c =
    let f = form_of g.K.Kind g.K.Filed in
    let storage = bay_storage c.read.new.sheet in
    let was_faulty = subst (λ start. Faulty f start c.args.input.now c.in-Err.fault storage) c.open-sheet.ensures.storage c.in-Err.ensures.answer in
    record { answer = IfOk-weaker _ _ _ (λ _ told. faulty c.in-Err.fault storage was_faulty told) c.fault_report.ensures.answer }
