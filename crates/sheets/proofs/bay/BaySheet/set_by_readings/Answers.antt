use Rattle.std.proofs.Common.{cond, [], map, get_or, is_ok, sym, ap, ◌∙◌, subst}
use Rattle.readings.specs.Readings.{sixty_fourths}
use Rattle.inclusion_exclusion.specs.Changes.{Raises, Lowers}
use Rattle.sheets.specs.Causes.Call.{set as set_call}
use Rattle.sheets.specs.Standings.{weighted}
use Rattle.sheets.specs.Sheets.{standing, sheet_causes, Outcome}
use Rattle.sheets.proofs.Measured.{behind_readings, raises_trimmed, lowers_trimmed, row_read, weighted_trimmed}
use Rattle.sheets.proofs.bay.BaySheet.set_by_readings.Goals as goal

pub returns : goal.returns
returns g c =
    let top = g.K.Kind.TOP in
    let sheet = c.args.self.now.sheet in
    let i = c.args.component in
    let weights = map sixty_fourths c.args.readings in
    let old = get_or sheet.card.rows i [] in
    let read = row_read c.args.readings c.TOP.result top c.row_of.result c.in_ok-row.row c.row_of.ensures.answer c.in_ok-row.ensures.ok_part c.TOP.ensures in
    record {
      refused = behind_readings top weights c.set.result _ _ read.0 (subst (λ row. Outcome c.set.result (sheet_causes g.K.Kind sheet (set_call i row))) read.1 c.set.ensures.refused);
      standing =
          c.set.ensures.standing ∙ ap (λ row. cond (is_ok c.set.result) (weighted top i row (standing sheet)) (standing sheet)) read.1
          ∙ ap (λ s. cond (is_ok c.set.result) s (standing sheet)) (weighted_trimmed top i weights (standing sheet));
      storage = c.set.ensures.storage;
      raising = λ up. c.set.ensures.raising (subst (Raises top old) (sym read.1) (raises_trimmed top weights old up));
      lowering = λ down. c.set.ensures.lowering (subst (Lowers top old) (sym read.1) (lowers_trimmed top weights old down));
    }
