use Rattle.std.proofs.Common.{◌≤◌, length, sym, refl, ◌∙◌, arith, rules}
use Rattle.std.proofs.lemmas.Result.{err_from_is_err_and}
use Rattle.sheets.specs.Refusals.{number}
use Rattle.sheets.specs.Sheets.{bay_storage}
use Rattle.sheet_file.specs.Reading.WrongHead.{missing, unmarked}
use Rattle.sheet_file.proofs.Records.{marks_read}
use Rattle.sheet_file.proofs.Heads.{head_short, head_other, size_wrong, threshold_wrong, head_begins}
use Rattle.sheet_file.proofs.reader.read_head.Goals as goal

pub returns-in_default-clause-answer : goal.returns-in_default-clause-answer
returns-in_default-clause-answer g c = missing (search rules)

pub returns-in-len2-up-clause-answer : goal.returns-in-len2-up-clause-answer
returns-in-len2-up-clause-answer g c =
    let bytes = c.args.bytes.now in
    let long : 2 ≤ length bytes = search rules in
    unmarked long (λ e. let m = marks_read bytes long e in search rules)

pub returns-in_default-fields-clause-answer : goal.returns-in_default-fields-clause-answer
returns-in_default-fields-clause-answer g c = head_short (search rules) (search rules)

pub returns-then-kind-BYTE-clause-answer : goal.returns-then-kind-BYTE-clause-answer
returns-then-kind-BYTE-clause-answer g c =
    head_other (search rules) (search rules, refl, refl, refl) (λ e. c.if-kind-BYTE.true (e ∙ sym c.BYTE.ensures))

pub returns-in_err-size-clause-answer : goal.returns-in_err-size-clause-answer
returns-in_err-size-clause-answer g c =
    let told = c.in_err-size.ensures in
    let p = err_from_is_err_and c.from_residual.result c.from_residual.ensures.1 in
    rw (p.1, p.2) (size_wrong (search rules) (search rules, search rules, c.from.ensures, refl) (bay_storage c.args.sheet.now) (number c.in_err-size.field-0.0) c.requires.opened told.refused)

pub returns-in_err-threshold-clause-answer : goal.returns-in_err-threshold-clause-answer
returns-in_err-threshold-clause-answer g c =
    let told = c.in_ok-size.ensures in
    let p = err_from_is_err_and c.from_residual-in_err-threshold.result c.from_residual-in_err-threshold.ensures.1 in
    rw (p.1, p.2) (threshold_wrong (search rules) (search rules, search rules, c.from.ensures, omega (arith, c.from_be_bytes-asked.ensures)) told.refused.0 (c.in_err-threshold.ensures))

pub returns-clause-answer : goal.returns-clause-answer
returns-clause-answer g c =
    let told = c.in_ok-size.ensures in
    let kept = c.in_ok-threshold.ensures in
    head_begins (search rules) (search rules, search rules, c.from.ensures, omega (arith, kept.0, c.from_be_bytes-asked.ensures)) told.refused.0 (omega (arith, kept.0, kept.1)) told.standing c.requires.opened told.storage
