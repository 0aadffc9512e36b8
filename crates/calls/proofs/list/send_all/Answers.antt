use Rattle.std.proofs.Common.{sym, subst, arith}
use Rattle.sheets.specs.Sheets.{bay_storage, road_standing, road_storage}
use Rattle.calls.specs.Book.{page, bay}
use Rattle.calls.specs.Pages.{page_of, LawOf}
use Rattle.calls.proofs.Pages.{SoFar, begun, sent_more, law}
use Rattle.calls.proofs.list.send_all.Goals as goal

pub loop-i-init : goal.loop-i-init
loop-i-init g c =
    let places = bay_storage c.open.result in
    subst (λ s. SoFar g.K.Kind g.A.Algebra places c.args.calls.now c.args.answers.now 0 (page bay s places) c.args.answers.now)
    (sym c.open.ensures.standing) (begun g.K.Kind g.A.Algebra places c.args.calls.now c.args.answers.now)

pub loop-i-preserved : goal.loop-i-preserved
loop-i-preserved g c =
    sent_more g.K.Kind g.A.Algebra (bay_storage c.open.result) c.args.calls.now c.args.answers.now
    c.loop-i.i (page_of c.loop-i.sheet) (page_of c.send-after.result.0) c.loop-i.answers c.keep.new.answers c.index-calls-i.result c.send-after.result.1
    c.loop-i.invariant (omega arith, sym c.index-calls-i.is) c.send-after.ensures.step c.keep.ensures.after

pub returns : goal.returns
returns g c =
    record {
      law =
          subst (λ places. LawOf g.K.Kind g.A.Algebra places c.args.calls.now c.args.answers.now c.loop-i.answers (road_standing c.on_road.result) (road_storage c.on_road.result))
          c.open.ensures.storage
          (law g.K.Kind g.A.Algebra (bay_storage c.open.result) c.args.calls.now c.args.answers.now
          g.met.K.Kind.top_most g.met.K.Kind.levels_most c.loop-i.i (page_of c.loop-i.sheet) c.loop-i.answers _ _ (omega arith) c.loop-i.invariant c.on_road.ensures.standing c.on_road.ensures.storage);
    }
