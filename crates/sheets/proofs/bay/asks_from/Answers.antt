use Rattle.std.proofs.Common.{◌-◌, ◌<◌, ◌≤◌, refl, rules, tests}
use Rattle.std.proofs.lemmas.Iterator.{cases_from_any, YieldsList-from_range}
use Rattle.sheets.proofs.Held.{asks_from_cases}
use Rattle.sheets.proofs.bay.asks_from.Goals as goal

pub returns : goal.returns
returns g c =
    let d = g.K.Kind.levels c.args.need in
    let first = c.args.first in
    let cases = cases_from_any _ _ _ (λ i. 0 < d i) (λ i. d i ≤ 0) c.any.ensures.ran (YieldsList-from_range first 16 (16 - first) (cc) refl) (λ x q k. search (rules, tests)) (λ x q k. search (rules, tests)) in
    record { answer = asks_from_cases d first c.any.result cases }
