use Rattle.std.proofs.Common.{refl}
use Rattle.sheets.specs.Sheets.{bay_standing, bay_storage}
use Rattle.calls.specs.declared.call.Call.TheVariants.{Size, Set, SetByReadings, Strike}
use Rattle.calls.specs.Book.{bay}
use Rattle.calls.proofs.Sending.{step_refused, step_unfit}
use Rattle.calls.proofs.send.change.Goals as goal

pub returns-in_err-size-in-Size : goal.returns-in_err-size-in-Size
returns-in_err-size-in-Size g c =
    let e = c.in_err-size-in-Size in
    record {
      step =
          step_refused g.K.Kind g.A.Algebra bay (bay_standing c.args.bay.now) _ (bay_storage c.args.bay.now) _ e.field-0.0 c.from_residual.result c.from_residual.ensures.1
          e.ensures.standing e.ensures.storage c.args.call (Size c.in-Size.components) c.in-Size.is refl refl e.ensures.refused;
    }

pub returns-in_err-set-in-Set : goal.returns-in_err-set-in-Set
returns-in_err-set-in-Set g c =
    let e = c.in_err-set-in-Set in
    record {
      step =
          step_refused g.K.Kind g.A.Algebra bay (bay_standing c.args.bay.now) _ (bay_storage c.args.bay.now) _ e.field-0.0 c.from_residual-in_err-set-in-Set.result c.from_residual-in_err-set-in-Set.ensures.1
          e.ensures.standing e.ensures.storage c.args.call (Set c.in-Set.component c.in-Set.row) c.in-Set.is refl refl e.ensures.refused;
    }

pub returns-in_err-set_by_readings-in-SetByReadings : goal.returns-in_err-set_by_readings-in-SetByReadings
returns-in_err-set_by_readings-in-SetByReadings g c =
    let e = c.in_err-set_by_readings-in-SetByReadings in
    record {
      step =
          step_refused g.K.Kind g.A.Algebra bay (bay_standing c.args.bay.now) _ (bay_storage c.args.bay.now) _ e.field-0.0 c.from_residual-in_err-set_by_readings-in-SetByReadings.result c.from_residual-in_err-set_by_readings-in-SetByReadings.ensures.1
          e.ensures.standing e.ensures.storage c.args.call (SetByReadings c.in-SetByReadings.component c.in-SetByReadings.readings) c.in-SetByReadings.is refl refl e.ensures.refused;
    }

pub returns-in_err-fit-in-Fit : goal.returns-in_err-fit-in-Fit
returns-in_err-fit-in-Fit g c =
    let e = c.in_err-fit-in-Fit in
    record {
      step =
          step_unfit g.K.Kind g.A.Algebra bay (bay_standing c.args.bay.now) _ (bay_storage c.args.bay.now) _ e.field-0.0 c.from_residual-in_err-fit-in-Fit.result c.from_residual-in_err-fit-in-Fit.ensures.1
          e.ensures.standing e.ensures.storage c.args.call c.in-Fit.need c.in-Fit.is refl e.ensures.answer e.ensures.refused;
    }

pub returns-in_err-strike-in-Strike : goal.returns-in_err-strike-in-Strike
returns-in_err-strike-in-Strike g c =
    let e = c.in_err-strike-in-Strike in
    record {
      step =
          step_refused g.K.Kind g.A.Algebra bay (bay_standing c.args.bay.now) _ (bay_storage c.args.bay.now) _ e.field-0.0 c.from_residual-in_err-strike-in-Strike.result c.from_residual-in_err-strike-in-Strike.ensures.1
          e.ensures.standing e.ensures.storage c.args.call (Strike c.in-Strike.place) c.in-Strike.is refl refl e.ensures.refused;
    }
