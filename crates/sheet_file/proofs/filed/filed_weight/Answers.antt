use Rattle.std.proofs.Common.{ℕ, List, ◌/◌, [], length, ap, ◌∙◌, arith, get_or}
use Rattle.std.specs.Int.{w16, from_be_bytes}
use Rattle.sheet_file.proofs.Words.{word_at, no_word}
use Rattle.sheet_file.proofs.filed.filed_weight.Goals as goal

pub returns-in-Some : goal.returns-in-Some
returns-in-Some c =
    let found = c.in-Some.ensures.lookup in
    let bytes = c.args.weights.now in
    let below = found.3.0 in
    let many = c.as_chunks.ensures.front_len in
    let word = found.3.1 [] ∙ ap (λ (chunks : List (List ℕ)). get_or chunks c.args.place []) c.as_chunks.ensures.front in
    record { answer = c.from_be_bytes.ensures ∙ ap (from_be_bytes w16) word ∙ word_at (length bytes / 2) bytes c.args.place [] (omega arith) (omega (arith, below, many)) }

pub returns-in-None : goal.returns-in-None
returns-in-None c =
    let past = c.in-None.ensures.lookup.3 in
    let many = c.as_chunks.ensures.front_len in
    record { answer = no_word c.args.weights.now c.args.place (omega (arith, past, many)) }
