use Rattle.std.proofs.Common.{◌≡◌, ◌∷◌, map, length, sym, ap, ◌∙◌, subst, rules}
use mathlib.Core.Path.{fun_ext}
use Rattle.std.specs.List.{between}
use Rattle.std.proofs.lemmas.Slice.{first_rest}
use Rattle.needs.specs.Levels.{Need, join}
use Rattle.totals.specs.Choices.{setting, weight}
use Rattle.totals.specs.Joins.{begun}
use Rattle.totals.proofs.Passes.{Adds, adds_first}
use Rattle.totals.proofs.chances.Chances.+add_sums.Goals as goal

pub returns : goal.returns
returns g t c =
    let a = g.A.Algebra in
    let s = setting c.args.self.components c.args.self.rows.now g.K.Kind.TOP in
    let j = begun g.K.Kind.levels c.args.so_far in
    let levels = g.K.Kind.levels in
    let x = levels c.first-item.result in
    let ns = c.args.needs.now in
    let xs = map levels (between 1 (length ns) ns) in
    let old = c.in-Some.sum.now in
    let olds = c.in-Some.larger.now in
    let v = c.add.result in
    let ys = c.add_sums.new.sums in
    let after = c.add_sums-2.new.sums in
    let join_is : levels c.joined_to-joined.result ≡ join j x = fun_ext c.joined_to-joined.ensures.answer in
    let long : length ys ≡ length olds = search rules in
    let own : a.means v ≡ a.model.plus (a.means old) (weight a.model s (join j x)) = c.add.ensures.answer ∙ ap (a.model.plus (a.means old)) (c.weight.ensures.answer ∙ ap (weight a.model s) join_is) in
    let with-x : Adds a.model s a.means (join j x) xs olds ys = subst (λ (d : Need). Adds a.model s a.means d xs olds ys) join_is c.add_sums.ensures.after in
    let without : Adds a.model s a.means j xs (v ∷ ys) after = c.add_sums-2.ensures.after in
    let sums : c.args.sums.now ≡ old ∷ olds = search rules in
    let needs : map levels ns ≡ x ∷ xs = ap (map levels) (first_rest ns c.first-item.result (search rules) ∙ ap (λ d. d ∷ between 1 (length ns) ns) (sym c.first-item.is)) in
    record { after = rw (needs, sums) (adds_first a.model s a.means j x xs old olds v ys after long own with-x without) }
