use Rattle.std.proofs.lemmas.Bool.Decides.{not_from_Decides}
use Rattle.sheets.specs.Causes.{AsksFrom}
use Rattle.sheets.proofs.Outcomes.{fit_settled, fit_never_lowers}
use Rattle.sheets.proofs.bay.BaySheet.fit.Goals as goal

pub invariant_of-sheet : goal.invariant_of-sheet
invariant_of-sheet g c =
    let sheet = c.args.self.now.sheet in
    let no_other = not_from_Decides c.asks_from.result c.asks_from.ensures.answer c.if-asks_from.false in
    let some : (AsksFrom 0 (g.K.Kind.levels c.args.need) → ⊥) → ⊥ = λ none. none (c.asks_from-2.ensures.answer.0 c.if-not-asks_from.false) in
    record {
      least = sheet.least;
      most = sheet.most;
      falling = sheet.falling;
      settled = fit_settled sheet c.args.need c.fit.result c.fit.new.self no_other some c.fit.ensures.refused c.fit.ensures.standing c.fit.ensures.storage;
    }

pub returns-clause-never_lowers : goal.returns-clause-never_lowers
returns-clause-never_lowers g c =
    let sheet = c.args.self.now.sheet in
    let no_other = not_from_Decides c.asks_from.result c.asks_from.ensures.answer c.if-asks_from.false in
    let some : (AsksFrom 0 (g.K.Kind.levels c.args.need) → ⊥) → ⊥ = λ none. none (c.asks_from-2.ensures.answer.0 c.if-not-asks_from.false) in
    fit_never_lowers sheet c.args.need c.fit.result c.fit.new.self no_other some c.fit.ensures.refused c.fit.ensures.standing c.fit.ensures.storage g.met.K.Kind.top_most
