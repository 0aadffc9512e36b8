use Rattle.std.proofs.Common.{◌≡◌, length, sym, ◌∙◌, rules, take-append-drop}
use Rattle.sheet_file.proofs.Words.{four_bytes}
use Rattle.sheet_file.proofs.filed.U32Filed.split_need.Goals as goal

pub returns : goal.returns
returns c =
    let cut = c.in_ok-code.ensures.cases in
    let split = sym (take-append-drop 4 c.args.fields.now) in
    let long : length c.in_ok-code.code.now ≡ 4 = rw cut.0 (search rules) in
    record { answer = (c.in_ok-code.code.now, rw (cut.0, cut.1) split, long, c.from_be_bytes.ensures ∙ four_bytes c.in_ok-code.code.now long) }
