use Rattle.std.proofs.Common.{◌*◌, ◌∷◌, get_or, of_calls, sym, ap, ◌∙◌, rules, take-append-drop}
use Rattle.sheet_file.specs.Layout.{words}
use Rattle.weights.proofs.Arrays.{three_read}
use Rattle.sheet_file.proofs.Words.{row_filled}
use Rattle.sheet_file.proofs.filed.Filed.split_weights.Goals as goal

pub returns : goal.returns
returns g c =
    let cut = c.in_ok-weights.ensures.cases in
    let split = sym (take-append-drop (2 * c.from.result) c.in_ok-component.behind.now) in
    let long = cut.3 ∙ ap (λ n. 2 * n) (c.from.ensures ∙ c.TOP.ensures) in
    let bytes = c.in_ok-weights.weights.now in
    let made = three_read _ _ (λ i. get_or (words bytes) i 0) (λ i y q called. (search (rules, of_calls), search (rules, of_calls))) c.from_fn.result c.from_fn.ensures.items in
    record {
      answer = (
        c.in_ok-weights.weights.now,
        c.in_ok-component.ensures.cases.0 ∙ ap (λ xs. c.in_ok-component.component.now ∷ xs) (rw (cut.1, cut.2) split),
        long,
        made ∙ row_filled bytes g.Self.Kind.TOP long g.met.Self.Kind.top_most,
      );
    }
