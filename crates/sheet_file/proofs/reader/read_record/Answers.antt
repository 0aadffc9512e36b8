use Rattle.std.proofs.Common.{◌≤◌, length, refl, rules}
use Rattle.std.proofs.lemmas.Option.{MatchOption-at_none, MatchOption-at_some}
use Rattle.std.proofs.lemmas.Result.{err_from_is_err_and}
use Rattle.sheet_file.specs.Reading.WrongRecord.{missing, unmarked}
use Rattle.sheet_file.proofs.Refused.{named}
use Rattle.sheet_file.proofs.Records.{marks_split, marks_read, weights_short, need_short, weights_wrong, need_wrong, weights_taken, need_taken}
use Rattle.sheet_file.proofs.reader.read_record.Goals as goal

pub returns-in_default : goal.returns-in_default
returns-in_default g c = record { answer = (missing (search rules), refl) }

pub returns-in-len2-up : goal.returns-in-len2-up
returns-in-len2-up g c =
    let bytes = c.args.bytes.now in
    let long : 2 ≤ length bytes = search rules in
    record { answer = (unmarked long (λ e. let m = marks_read bytes long e in search rules) (λ e. let m = marks_read bytes long e in search rules) (λ e. c.requires.record _ (marks_split bytes e)), refl) }

pub returns-in_err-filed-in-87 : goal.returns-in_err-filed-in-87
returns-in_err-filed-in-87 g c =
    let told = c.in_err-filed-in-87.ensures in
    let p = err_from_is_err_and c.from_residual.result c.from_residual.ensures.1 in
    let why = named c.split_weights.result told.ok_part told.value in
    rw (p.1, p.2, why) record { answer = (weights_short (search rules) (MatchOption-at_none _ _ told.ok_part c.split_weights.ensures.answer), refl) }

pub returns-in_err-need-in-78 : goal.returns-in_err-need-in-78
returns-in_err-need-in-78 g c =
    let told = c.in_err-need-in-78.ensures in
    let p = err_from_is_err_and c.from_residual-in_err-need-in-78.result c.from_residual-in_err-need-in-78.ensures.1 in
    let why = named c.split_need.result told.ok_part told.value in
    rw (p.1, p.2, why) record { answer = (need_short (search rules) (MatchOption-at_none _ _ told.ok_part c.split_need.ensures.answer), refl) }

pub returns-in_err-set-in-87 : goal.returns-in_err-set-in-87
returns-in_err-set-in-87 g c =
    let told = c.in_err-set-in-87.ensures in
    let p = err_from_is_err_and c.from_residual-in_err-set-in-87.result c.from_residual-in_err-set-in-87.ensures.1 in
    let split = MatchOption-at_some _ _ _ c.in_ok-filed-in-87.ensures.ok_part c.split_weights.ensures.answer in
    rw (p.1, p.2) record { answer = (weights_wrong c.in_err-set-in-87.field-0.0 told.refused (search rules) c.from.ensures split, told.storage) }

pub returns-in_err-fit-in-78 : goal.returns-in_err-fit-in-78
returns-in_err-fit-in-78 g c =
    let told = c.in_err-fit-in-78.ensures in
    let p = err_from_is_err_and c.from_residual-in_err-fit-in-78.result c.from_residual-in_err-fit-in-78.ensures.1 in
    let split = MatchOption-at_some _ _ _ c.in_ok-need-in-78.ensures.ok_part c.split_need.ensures.answer in
    rw (p.1, p.2) record { answer = (need_wrong told.refused told.answer (search rules) (search rules) split, told.storage) }

pub returns-in_ok-set-in-87 : goal.returns-in_ok-set-in-87
returns-in_ok-set-in-87 g c =
    let told = c.in_ok-set-in-87.ensures in
    let split = MatchOption-at_some _ _ _ c.in_ok-filed-in-87.ensures.ok_part c.split_weights.ensures.answer in
    record { answer = weights_taken told.refused told.standing told.storage (search rules) c.from.ensures split }

pub returns-in_ok-fit-in-78 : goal.returns-in_ok-fit-in-78
returns-in_ok-fit-in-78 g c =
    let told = c.in_ok-fit-in-78.ensures in
    let split = MatchOption-at_some _ _ _ c.in_ok-need-in-78.ensures.ok_part c.split_need.ensures.answer in
    record { answer = need_taken told.refused told.standing told.storage (search rules) (search rules) (search rules) split }
