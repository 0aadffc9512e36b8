use Rattle.std.proofs.Common.{rules, ◌≡◌, ℕ, ◌≤◌, Some, MatchOption, pos, refl, sym, ◌∙◌, subst}
use lib.Ieee.{binary64, of_int, of_bits, mul, le}
use Rattle.std.proofs.iter.runs.Sources.{range_listed_back}
use Rattle.readings.proofs.Descent.{Largest, largest_from_find, largest_is}
use Rattle.std.proofs.lemmas.Bool.{false≢true}
use Rattle.std.specs.Option.{IfSome}
use Rattle.readings.specs.Readings.{IsChance, AtMost, sixty_fourths}
use Rattle.readings.proofs.Chances.{contains_decides, to_certainty, largest}
use Rattle.readings.proofs.Scaling.{scaled_most}
use Rattle.readings.proofs.weight_of.Goals as goal

found : (c : goal.After-find) → Largest (λ w. le (of_int binary64 (pos w)) (mul binary64 c.args.reading (of_bits binary64 0x4050_0000_0000_0000))) 64 c.find.result
found c =
    let find = c.find.ensures.runs in
    let back = c.rev.ensures.runs find.0 find.0.seen find.1 in
    let down = range_listed_back back.0 back.0.seen in
    largest_from_find _ _ _ find.0 back.0 64 down.0 down.1 (search rules) (search rules) back.2 down.4 (λ x b q called. search rules) (λ x b q called. search rules) c.find.result find.2

is : (c : goal.After-find) → IsChance c.args.reading → c.find.result ≡ Some (sixty_fourths c.args.reading)
is c chance =
    let p = c.args.reading in
    largest_is _ 64 (sixty_fourths p) (to_certainty p chance) (λ v h. scaled_most p v c.well_formed.0.1 chance h) c.find.result (found c)

chance : (c : goal.After-find) → IsChance c.args.reading
chance c =
    let range = c.new.ensures in
    (contains_decides c.new.result range.start range.end range.exhausted c.args.reading c.contains.result c.contains.ensures.value).0 c.if-not-contains.false

pub returns-then-not-contains-clause-answer : goal.returns-then-not-contains-clause-answer
returns-then-not-contains-clause-answer c = λ chance.
    let range = c.new.ensures in
    false≢true (sym c.if-not-contains.true ∙ (contains_decides c.new.result range.start range.end range.exhausted c.args.reading c.contains.result c.contains.ensures.value).1 chance)

pub returns-clause-answer : goal.returns-clause-answer
returns-clause-answer c =
    let p = c.args.reading in
    subst (λ r. MatchOption r (IsChance p → ⊥) (λ w. IsChance p × (w ≡ sixty_fourths p))) (sym (is c (chance c))) (chance c, refl)

pub returns-clause-largest : goal.returns-clause-largest
returns-clause-largest c =
    let p = c.args.reading in
    subst (λ r. IfSome r (λ w. AtMost w p × ((v : ℕ) → AtMost v p → v ≤ w))) (sym (is c (chance c))) (largest p (chance c))
