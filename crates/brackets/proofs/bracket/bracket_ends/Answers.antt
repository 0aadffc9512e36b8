-- At full depth the total makes both ends; below it the list holds the totals of all depths, so its best ends are those of the bracket. Assumes nothing.
use Rattle.std.proofs.Common.{◌≡◌, ℕ, Bool, true, false, cond, leb, List, map, length, ap, ◌∙◌, w64, rules}
use lib.ListN.{length-map}
use Rattle.std.proofs.lemmas.Bool.Decides.{nat_tests}
use Rattle.std.proofs.lemmas.Int.{to_z-of_z}
use Rattle.needs.specs.Levels.{Need}
use Rattle.algebras.specs.Residues.{signed}
use Rattle.totals.specs.Choices.{Setting, setting}
use Rattle.inclusion_exclusion.specs.Reliability.{totals}
use Rattle.inclusion_exclusion.specs.Bonferroni.{best_low, best_high}
use Rattle.brackets.specs.Brackets.{both, ends}
use Rattle.brackets.specs.Readings.{ReadsAs, best_so_far}
use Rattle.brackets.proofs.bracket.bracket_ends.Goals as goal

-- the ends, once it is known whether the depth is full
ends_by : (s : Setting) (ds : List Need) (depth : ℕ) (full : Bool) → full ≡ leb (length ds) depth
    → both (cond full (totals s ds depth) (best_low (totals s ds) depth)) (cond full (totals s ds depth) (best_high (totals s ds) depth)) ≡ ends s ds depth
ends_by s ds depth full known = ap (λ b. both (cond b (totals s ds depth) (best_low (totals s ds) depth)) (cond b (totals s ds depth) (best_high (totals s ds) depth))) known

pub returns-then-depth-needs : goal.returns-then-depth-needs
returns-then-depth-needs g c =
    let s = setting c.args.chances.components c.args.chances.rows.now g.K.Kind.TOP in
    let ds = map g.K.Kind.levels c.args.needs.now in
    let long = length-map c.args.needs.now g.K.Kind.levels in
    let number : c.from-depth.result ≡ c.args.depth.of = search rules in
    let read : c.signed-total.result ≡ totals s ds c.args.depth.of = c.signed-total.ensures.answer ∙ ap signed c.total.ensures.answer ∙ ap (totals s ds) number in
    let full : true ≡ leb (length ds) c.args.depth.of = search (rules, nat_tests) in
    record { answer = ap (λ z. both z z) (to_z-of_z w64 c.signed-total.result (record { sfits = c.signed-total.type_inv }) ∙ read) ∙ ends_by s ds c.args.depth.of true full }

pub returns : goal.returns
returns g c =
    let s = setting c.args.chances.components c.args.chances.rows.now g.K.Kind.TOP in
    let ds = map g.K.Kind.levels c.args.needs.now in
    let long = length-map c.args.needs.now g.K.Kind.levels in
    let filled : length c.fill_totals.new.totals ≡ c.args.depth.of = search rules in
    let reads : ReadsAs c.fill_totals.new.totals (totals s ds) = λ k d h. ap signed (c.fill_totals.ensures.answer k d (search rules)) in
    let not_full : false ≡ leb (length ds) c.args.depth.of = search (rules, nat_tests) in
    record { answer = c.best_ends.ensures.answer (totals s ds) reads ∙ ap (best_so_far (totals s ds)) filled ∙ ends_by s ds c.args.depth.of false not_full }
