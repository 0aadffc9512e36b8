use Rattle.std.proofs.Common.{rules, tests, refl, ◌≡◌}
use Rattle.needs.specs.Levels.{width}
use Rattle.needs.proofs.Every.{decides_below}
use Rattle.needs.proofs.Kind.same.Goals as goal

pub returns : goal.returns
returns g c =
    let level = g.Self.Kind.levels in
    record {
      answer = decides_below (λ i. level c.args.self i ≡ level c.args.other i) width _ _ _ refl c.all.ensures.ran
          (λ i q k. search (rules, tests)) (λ i q k. search (rules, tests));
    }
