use Rattle.std.proofs.Common.{◌≡◌, ℕ, List, map, get_or, set, replicate, ap, ◌∙◌, set-set, rules}
use lib.Seq.{set-get_or}
use Rattle.totals.specs.Choices.{setting}
use Rattle.brackets.specs.Brackets.{ends}
use Rattle.brackets.specs.declared.ends.Ends.{Ends}
use Rattle.brackets.proofs.trial.tried_ends.Goals as goal

-- a row written and the old one written back
set_back : {X : Type 0} (rows : List X) (i : ℕ) (row old d : X) (written back : List X) → old ≡ get_or rows i d → written ≡ set rows i row → back ≡ set written i old → back ≡ rows
set_back rows i row old d written back kept wrote wrote-back =
    wrote-back ∙ ap (λ xs. set xs i old) wrote ∙ set-set rows i row old ∙ ap (set rows i) kept ∙ set-get_or rows i d

pub returns-in_err-depth : goal.returns-in_err-depth
returns-in_err-depth g c =
    record { answer = search rules; after = set_back c.args.rows.now c.args.component c.args.row c.row_at-old.result (replicate 3 0) c.write_row.new.rows _ c.row_at-old.ensures.answer c.write_row.ensures.after c.drop-trial.ensures.after }

pub returns : goal.returns
returns g c =
    let ends_by : List (List ℕ) → ℕ → Ends = λ rows depth. ends (setting c.args.components rows g.K.Kind.TOP) (map g.K.Kind.levels c.args.needs.now) depth in
    let is : c.in_ok-depth.depth.of ≡ c.args.depth = search rules in
    record {
      answer = (c.bracket_ends.ensures.answer ∙ ap (λ rows. ends_by rows c.in_ok-depth.depth.of) c.write_row.ensures.after ∙ ap (ends_by _) is, search rules, search rules);
      after = set_back c.args.rows.now c.args.component c.args.row c.row_at-old.result (replicate 3 0) c.write_row.new.rows _ c.row_at-old.ensures.answer c.write_row.ensures.after c.drop-trial-2.ensures.after;
    }
