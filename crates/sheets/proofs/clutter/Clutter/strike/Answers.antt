use Rattle.std.proofs.Common.{sym, ◌∙◌, arith, get_or-take, rules}
use Rattle.std.proofs.lemmas.List.{get_or_default}
use Rattle.sheets.proofs.Struck.{struck_places}
use Rattle.sheets.proofs.clutter.Clutter.strike.Goals as goal

pub returns : goal.returns
returns g c =
    let self = c.args.self.now in
    let p = c.args.place in
    record {
      refused = search rules;
      answer = sym (get_or-take self.held self.places.now p _ c.if-place-held.false ∙ get_or_default self.places.now p _ _ (omega arith));
      standing = search rules;
      storage = struck_places self.places.now self.held p self.within c.if-place-held.false c.close_up.new.row c.close_up.ensures.after;
    }
