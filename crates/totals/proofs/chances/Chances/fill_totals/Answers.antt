-- The fill leaves zero at each place, the pass adds the sums, and they are taken together with signs in turn. Assumes nothing.
use Rattle.std.proofs.Common.{◌≡◌, ℕ, suc, map, get_or, ap, ◌∙◌, rules}
use Rattle.std.specs.List.{All}
use Rattle.std.proofs.lemmas.List.Elements.{All-nil, All-push}
use Rattle.std.proofs.lemmas.Fn.{chained_keeps}
use Rattle.totals.specs.Choices.{setting, sum}
use Rattle.totals.specs.Joins.{sum_from}
use Rattle.totals.proofs.Groups.{zero_plus, alternating_same}
use Rattle.totals.proofs.Sums.{sum_from_nothing}
use Rattle.totals.proofs.chances.Chances.fill_totals.Goals as goal

pub returns : goal.returns
returns g c =
    let m = g.A.Algebra.model in
    let means = g.A.Algebra.means in
    let s = setting c.args.self.components c.args.self.rows.now g.K.Kind.TOP in
    let ds = map g.K.Kind.levels c.args.needs.now in
    let sums = c.add_sums.new.sums in
    let from : ℕ → m.Carrier = λ j. sum_from m s (λ i. 0) (suc j) ds in
    let zeroed : All (λ v. means v ≡ m.zero) c.fill_with.new.self
    = chained_keeps _ (λ vs f. All (λ v. means v ≡ m.zero) vs) (λ vs f v f' all called. All-push (λ v. means v ≡ m.zero) vs v all (search rules)) _ _ _ (All-nil (λ v. means v ≡ m.zero)) c.fill_with.ensures.ran.1 in
    record {
      answer = λ k d h.
          c.accumulate.ensures.after k d (search rules) ∙
          alternating_same m (λ j. means (get_or sums j d)) (λ j. sum m s (suc j) ds) (suc k)
          (λ j b. c.add_sums.ensures.after j d (search rules) ∙ ap (λ x. m.plus x (from j)) (zeroed j d (search rules)) ∙ zero_plus m (from j) ∙ sum_from_nothing m s (suc j) ds);
    }
