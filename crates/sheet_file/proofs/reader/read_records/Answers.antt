use Rattle.std.proofs.Common.{◌≡◌, ◌+◌, ◌-◌, ◌<◌, List, ◌++◌, length, codes, sym, refl, ap, ◌∙◌, subst, rules}
use Rattle.std.specs.List.{between}
use Rattle.std.proofs.lemmas.List.{nil_from_length}
use Rattle.std.proofs.lemmas.Result.{err_from_is_err_and, MatchResult-at_ok, MatchResult-at_err}
use Rattle.sheets.specs.declared.refusal.Refusal.TheVariants.{TrailingBytes}
use Rattle.sheets.specs.Sheets.{bay_standing, bay_storage}
use Rattle.sheet_file.specs.declared.fault.Fault.{Fault}
use Rattle.sheet_file.specs.Forms.{form_of}
use Rattle.sheet_file.specs.Faults.{Faulty, Read}
use Rattle.sheet_file.specs.Faults.Faulty.{at_head, at_record, behind_end}
use Rattle.sheet_file.specs.Faults.Read.{whole}
use Rattle.sheet_file.proofs.Fronts.{marked}
use Rattle.sheet_file.proofs.Refused.{kept, turned}
use Rattle.sheet_file.proofs.Reached.{reached_byte, reached_more, reached_few, faulty_from}
use Rattle.sheet_file.proofs.reader.read_records.Goals as goal

pub returns-in_err-threshold : goal.returns-in_err-threshold
returns-in_err-threshold g c =
    let p = err_from_is_err_and c.from_residual.result c.from_residual.ensures.1 in
    let t = turned _ c.read_head.result c.map_err.result c.map_err.ensures.cases c.in_err-threshold.was in
    let told = c.read_head.ensures in
    let wrong = MatchResult-at_err _ _ t.0 t.1 told.answer in
    let e : c.in_err-threshold.field-0.0 ≡ record { refusal = t.0; «record» = 0; byte = 0 } = search rules in
    rw (p.1, p.2, e) record {
      answer = subst (λ (st : List g.row.K.Denot). Faulty (form_of g.K.Kind g.K.Filed) (bay_storage c.args.sheet.now) c.args.input.now (record { refusal = t.0; «record» = 0; byte = 0 }) st)
          (sym told.storage) (at_head wrong refl refl);
    }

pub returns-then-is_empty : goal.returns-then-is_empty
returns-then-is_empty g c =
    let rest = c.loop-rest.rest.now in
    let none : length (between 2 (length rest) rest) ≡ 0 = search rules in
    let end : rest ≡ codes "EN" ++ between 2 (length rest) rest = marked 69 78 rest (search rules) (search rules) (search rules) in
    let ends = end ∙ ap (λ xs. codes "EN" ++ xs) (nil_from_length (between 2 (length rest) rest) none) in
    let f = form_of g.K.Kind g.K.Filed in
    let reached = c.loop-rest.invariant in
    record {
      answer = subst (λ (first : List g.row.K.Denot). Read f first c.args.input.now c.in_ok-threshold.threshold.of (bay_standing c.loop-rest.sheet) (bay_storage c.loop-rest.sheet)) c.read_head.ensures.storage
          (whole reached.good (reached.split ∙ ap (λ xs. reached.front ++ xs) ends));
    }

pub overflow_add-result : goal.overflow_add-result
overflow_add-result g c = let few = reached_few c.loop-rest.invariant in search rules

pub returns-in-69 : goal.returns-in-69
returns-in-69 g c =
    let rest = c.loop-rest.rest.now in
    let behind = between 2 (length rest) rest in
    let more : 0 < length behind = search rules in
    let end : rest ≡ codes "EN" ++ behind = marked 69 78 rest (search rules) (search rules) (search rules) in
    let reached = c.loop-rest.invariant in
    let byte = reached_byte reached in
    let faulty = behind_end {e = record { refusal = TrailingBytes; «record» = c.loop-rest.record + 1; byte = length c.args.input.now - length rest + 2 }}
    behind reached.good (reached.split ∙ ap (λ xs. reached.front ++ xs) end) more refl refl (ap (λ n. n + 2) byte) in
    record { answer = faulty_from c.read_head.ensures.storage faulty }

pub returns-in_err-rest : goal.returns-in_err-rest
returns-in_err-rest g c =
    let p = err_from_is_err_and c.from_residual-in_err-rest.result c.from_residual-in_err-rest.ensures.1 in
    let t = turned _ c.read_record.result c.map_err-in-loop-rest.result c.map_err-in-loop-rest.ensures.cases c.in_err-rest.was in
    let told = MatchResult-at_err _ _ t.0 t.1 c.read_record.ensures.answer in
    let f = form_of g.K.Kind g.K.Filed in
    let reached = c.loop-rest.invariant in
    let fault : Fault = record { refusal = t.0; «record» = c.loop-rest.record; byte = length c.args.input.now - length c.loop-rest.rest.now } in
    let e : c.in_err-rest.field-0.0 ≡ fault = search rules in
    let faulty = at_record {e = fault} c.loop-rest.rest.now reached.good reached.split told.0 refl (reached_byte reached) in
    rw (p.1, p.2, e) record {
      answer = faulty_from c.read_head.ensures.storage
          (subst (λ (st : List g.row.K.Denot). Faulty f (bay_storage c.read_head.new.sheet) c.args.input.now fault st) (sym told.1) faulty);
    }

pub overflow_add-record : goal.overflow_add-record
overflow_add-record g c = let few = reached_few c.loop-rest.invariant in search rules

pub loop-rest-preserved : goal.loop-rest-preserved
loop-rest-preserved g c =
    let k = kept _ c.read_record.result c.map_err-in-loop-rest.result c.map_err-in-loop-rest.ensures.cases c.in_ok-rest.was in
    let told = MatchResult-at_ok _ _ _ k c.read_record.ensures.answer in
    reached_more c.loop-rest.invariant told.1 told.3
