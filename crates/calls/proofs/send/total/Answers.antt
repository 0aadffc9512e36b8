use Rattle.std.proofs.Common.{refl}
use Rattle.sheets.specs.Sheets.{road_standing, road_storage}
use Rattle.calls.specs.declared.call.Call.TheVariants.{Total}
use Rattle.calls.specs.Book.{road}
use Rattle.calls.proofs.Sending.{step_refused}
use Rattle.calls.proofs.send.total.Goals as goal

pub returns-in_err-total_in-in-Fixed : goal.returns-in_err-total_in-in-Fixed
returns-in_err-total_in-in-Fixed g c =
    let e = c.in_err-total_in-in-Fixed in
    record {
      step =
          step_refused g.K.Kind g.A.Algebra road (road_standing c.args.road.now) _ (road_storage c.args.road.now) _ e.field-0.0 c.from_residual.result c.from_residual.ensures.1
          refl refl (Total c.args.algebra c.args.depth) (Total c.args.algebra c.args.depth) refl refl refl e.ensures.refused;
    }

pub returns-in_err-total_in-in-Polynomial : goal.returns-in_err-total_in-in-Polynomial
returns-in_err-total_in-in-Polynomial g c =
    let e = c.in_err-total_in-in-Polynomial in
    record {
      step =
          step_refused g.K.Kind g.A.Algebra road (road_standing c.args.road.now) _ (road_storage c.args.road.now) _ e.field-0.0 c.from_residual-in_err-total_in-in-Polynomial.result c.from_residual-in_err-total_in-in-Polynomial.ensures.1
          refl refl (Total c.args.algebra c.args.depth) (Total c.args.algebra c.args.depth) refl refl refl e.ensures.refused;
    }

pub returns-in_err-total_in-in-Count : goal.returns-in_err-total_in-in-Count
returns-in_err-total_in-in-Count g c =
    let e = c.in_err-total_in-in-Count in
    record {
      step =
          step_refused g.K.Kind g.A.Algebra road (road_standing c.args.road.now) _ (road_storage c.args.road.now) _ e.field-0.0 c.from_residual-in_err-total_in-in-Count.result c.from_residual-in_err-total_in-in-Count.ensures.1
          refl refl (Total c.args.algebra c.args.depth) (Total c.args.algebra c.args.depth) refl refl refl e.ensures.refused;
    }

pub returns-in_err-total_in-in-Own : goal.returns-in_err-total_in-in-Own
returns-in_err-total_in-in-Own g c =
    let e = c.in_err-total_in-in-Own in
    record {
      step =
          step_refused g.K.Kind g.A.Algebra road (road_standing c.args.road.now) _ (road_storage c.args.road.now) _ e.field-0.0 c.from_residual-in_err-total_in-in-Own.result c.from_residual-in_err-total_in-in-Own.ensures.1
          refl refl (Total c.args.algebra c.args.depth) (Total c.args.algebra c.args.depth) refl refl refl e.ensures.refused;
    }
