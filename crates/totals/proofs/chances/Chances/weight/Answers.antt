-- Each call of the closure takes one step, so the fold is the walk. Assumes nothing.
use Rattle.std.proofs.Common.{◌≡◌, refl, ap, sym, ◌∙◌, rules, arith}
use Rattle.std.specs.List.{fold, range_with_len}
use Rattle.std.proofs.lemmas.List.Sums.{fold_push}
use Rattle.std.proofs.iter.Yields.{nat_range_steps}
use Rattle.std.proofs.lemmas.Fn.{fold_over}
use Rattle.std.proofs.lemmas.Iterator.{YieldsList-from_range}
use Rattle.totals.specs.Choices.{setting}
use Rattle.totals.proofs.Walks.{taken, walk_is_fold}
use Rattle.totals.proofs.chances.Chances.weight.Goals as goal

pub returns : goal.returns
returns g c =
    let m = g.A.Algebra.model in
    let means = g.A.Algebra.means in
    let n = c.args.self.components in
    let s = setting n c.args.self.rows.now g.K.Kind.TOP in
    let d = g.K.Kind.levels c.args.need in
    let walked : means c.fold.result ≡ fold (taken m s d) (m.start n) (range_with_len 0 n)
    = fold_over nat_range_steps (λ i. i) _ (λ is x. means x ≡ fold (taken m s d) (m.start n) is) _
    (λ is x i y f held called.
    let stepped : means y ≡ taken m s d (means x) i = search rules in
    (stepped ∙ ap (λ u. taken m s d u i) held ∙ sym (fold_push (taken m s d) (m.start n) is i), search rules))
    (record { start = 0; end = n }) (range_with_len 0 n) _ _ (YieldsList-from_range 0 n n refl (omega arith)).runs c.start.ensures.answer c.fold.ensures.ran in
    record { answer = walked ∙ walk_is_fold m s d n 0 (m.start n) }
