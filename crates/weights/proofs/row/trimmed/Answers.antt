use Rattle.std.proofs.Common.{◌≡◌, ℕ, List, get_or, cond, sym, ◌∙◌, inl, inr, of_calls, rules, arith}
use lib.Dec.{ltb}
use Rattle.std.proofs.lemmas.Bool.{cases_lt, cond_below, cond_above}
use Rattle.weights.specs.Chances.{trimmed}
use Rattle.weights.proofs.Arrays.{three, three_read}
use Rattle.weights.proofs.Rows.{trimmed_below, trimmed_from, length_trimmed}
use Rattle.weights.proofs.row.trimmed.Goals as goal

pub returns : goal.returns
returns c =
    let top = c.args.top in
    let row = c.args.row in
    record {
      answer = three_read _ _ (λ i. get_or (trimmed top row) i 0) (λ i y q called. (search (rules, of_calls), search (rules, of_calls, trimmed_below, trimmed_from))) c.from_fn.result c.from_fn.ensures.items
          ∙ sym (three (trimmed top row) (length_trimmed top row ∙ search rules));
    }
