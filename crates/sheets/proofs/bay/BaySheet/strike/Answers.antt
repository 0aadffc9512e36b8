use Rattle.sheets.proofs.Outcomes.{strike_settled, strike_never_raises}
use Rattle.sheets.proofs.bay.BaySheet.strike.Goals as goal

pub invariant_of-sheet : goal.invariant_of-sheet
invariant_of-sheet g c =
    let sheet = c.args.self.now.sheet in
    record {
      least = sheet.least;
      most = sheet.most;
      falling = sheet.falling;
      settled = strike_settled sheet c.args.place c.strike.result c.strike.new.self c.strike.ensures.refused c.strike.ensures.standing c.strike.ensures.storage;
    }

pub returns-clause-never_raises : goal.returns-clause-never_raises
returns-clause-never_raises g c =
    strike_never_raises c.args.self.now.sheet c.args.place c.strike.result c.strike.new.self c.strike.ensures.refused c.strike.ensures.standing c.strike.ensures.storage g.met.K.Kind.top_most
