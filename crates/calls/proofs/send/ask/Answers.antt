use Rattle.std.proofs.Common.{refl, rules}
use Rattle.std.proofs.lemmas.Result.{err_from_is_err_and}
use Rattle.sheets.specs.Sheets.{road_standing, road_storage}
use Rattle.calls.specs.declared.call.Call.TheVariants.{Bracket, Judge, Try}
use Rattle.calls.specs.Book.{road}
use Rattle.calls.proofs.Sending.{step_refused}
use Rattle.calls.proofs.send.ask.Goals.{in-Find, in-Total+in_ok-total-in-Total, in-Bracket+in_ok-bracket-in-Bracket, in-Judge+in_ok-judge-in-Judge, in-Try+in_ok-try_with-in-Try, in_default}
use Rattle.calls.proofs.send.ask.Goals as goal

pub returns-in_err-total-in-Total : goal.returns-in_err-total-in-Total
returns-in_err-total-in-Total g c =
    let p = err_from_is_err_and c.from_residual.result c.from_residual.ensures.1 in
    record { step = rw (p.1, p.2, c.in-Total.is) c.in_err-total-in-Total.ensures.step }

pub returns : goal.returns
returns g c = record {
  step = elim c.match-call.branch [
    | in-Find w ↦ search rules
    | in-Total+in_ok-total-in-Total w ↦ rw (w.result-is, w.road-is, w.in-Total.is) w.in_ok-total-in-Total.ensures.step
    | in-Bracket+in_ok-bracket-in-Bracket w ↦ search rules
    | in-Judge+in_ok-judge-in-Judge w ↦ search rules
    | in-Try+in_ok-try_with-in-Try w ↦ search rules
    | in_default w ↦ search rules
  ];
}

pub returns-in_err-bracket-in-Bracket : goal.returns-in_err-bracket-in-Bracket
returns-in_err-bracket-in-Bracket g c =
    let e = c.in_err-bracket-in-Bracket in
    record {
      step =
          step_refused g.K.Kind g.A.Algebra road (road_standing c.args.road.now) _ (road_storage c.args.road.now) _ e.field-0.0 c.from_residual-in_err-bracket-in-Bracket.result c.from_residual-in_err-bracket-in-Bracket.ensures.1
          refl refl c.args.call (Bracket c.in-Bracket.depth) c.in-Bracket.is refl refl e.ensures.refused;
    }

pub returns-in_err-judge-in-Judge : goal.returns-in_err-judge-in-Judge
returns-in_err-judge-in-Judge g c =
    let e = c.in_err-judge-in-Judge in
    record {
      step =
          step_refused g.K.Kind g.A.Algebra road (road_standing c.args.road.now) _ (road_storage c.args.road.now) _ e.field-0.0 c.from_residual-in_err-judge-in-Judge.result c.from_residual-in_err-judge-in-Judge.ensures.1
          refl refl c.args.call (Judge c.in-Judge.depth c.in-Judge.threshold) c.in-Judge.is refl refl e.ensures.refused;
    }

pub returns-in_err-try_with-in-Try : goal.returns-in_err-try_with-in-Try
returns-in_err-try_with-in-Try g c =
    let e = c.in_err-try_with-in-Try in
    record {
      step =
          step_refused g.K.Kind g.A.Algebra road (road_standing c.args.road.now) _ (road_storage c.args.road.now) _ e.field-0.0 c.from_residual-in_err-try_with-in-Try.result c.from_residual-in_err-try_with-in-Try.ensures.1
          e.ensures.standing e.ensures.storage c.args.call (Try c.in-Try.component c.in-Try.supposed c.in-Try.depth) c.in-Try.is refl refl e.ensures.refused;
    }
