use Rattle.std.proofs.Common.{◌≡◌, suc, ◌-◌, [], ◌∷◌, map, length, sym, ap, ◌∙◌, rules}
use mathlib.Core.Path.{fun_ext}
use Rattle.std.specs.List.{between}
use Rattle.std.proofs.lemmas.List.{nil_from_length}
use Rattle.std.proofs.lemmas.Slice.{first_rest}
use Rattle.needs.specs.Levels.{join}
use Rattle.totals.specs.Choices.{setting, weight}
use Rattle.totals.specs.Joins.{begun, total_from}
use Rattle.totals.proofs.Sums.{total_none, total_more}
use Rattle.totals.proofs.chances.Chances.+total_from.Goals as goal

pub returns-in_default : goal.returns-in_default
returns-in_default g t c =
    let m = g.A.Algebra.model in
    let s = setting c.args.self.components c.args.self.rows.now g.K.Kind.TOP in
    let j = begun g.K.Kind.levels c.args.so_far in
    let empty : c.args.needs.now ≡ [] = nil_from_length c.args.needs.now (search rules) in
    record { answer = rw empty (c.zero.ensures.answer ∙ sym (total_none m s j c.args.depth)) }

pub returns : goal.returns
returns g t c =
    let m = g.A.Algebra.model in
    let s = setting c.args.self.components c.args.self.rows.now g.K.Kind.TOP in
    let levels = g.K.Kind.levels in
    let j = begun levels c.args.so_far in
    let x = levels c.first-item.result in
    let ns = c.args.needs.now in
    let xs = map levels (between 1 (length ns) ns) in
    let r = c.args.depth - 1 in
    let means = g.A.Algebra.means in
    let join_is : levels c.joined_to-joined.result ≡ join j x = fun_ext c.joined_to-joined.ensures.answer in
    let own : means c.weight.result ≡ weight m s (join j x) = c.weight.ensures.answer ∙ ap (weight m s) join_is in
    let others : means c.total_from-with_others.result ≡ total_from m s (join j x) r xs = c.total_from-with_others.ensures.answer ∙ ap (λ d. total_from m s d r xs) join_is in
    let without : means c.total_from.result ≡ total_from m s j c.args.depth xs = c.total_from.ensures.answer in
    let with-x : means c.sub-with_first.result ≡ m.minus (means c.weight.result) (means c.total_from-with_others.result) = c.sub-with_first.ensures.answer in
    let sum : means c.add.result ≡ m.plus (means c.total_from.result) (means c.sub-with_first.result) = c.add.ensures.answer in
    let more = total_more m s j x xs r in
    let deep : suc r ≡ c.args.depth = search rules in
    let needs : map levels ns ≡ x ∷ xs = ap (map levels) (first_rest ns c.first-item.result (search rules) ∙ ap (λ d. d ∷ between 1 (length ns) ns) (sym c.first-item.is)) in
    record { answer = cc }
