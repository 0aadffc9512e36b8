use Rattle.std.proofs.Common.{ℕ, List, map, refl, subst, inl, inr, arith}
use Rattle.sheets.specs.Causes.{ComparableAt, LowestComparable}
use Rattle.sheets.proofs.Held.{held_length}
use Rattle.sheets.proofs.clutter.Clutter.fit.Goals as goal

pub returns-in-Some : goal.returns-in-Some
returns-in-Some g c =
    let levels = g.K.Kind.levels in
    let found = subst (λ (ds : List g.row.K.Denot). LowestComparable (map levels ds) (levels c.args.need) c.in-Some.place) c.needs.ensures.answer c.in-Some.ensures.answer in
    record { refused = inl ((c.in-Some.place, found.0), refl); answer = found; standing = refl; storage = refl }

pub returns-then-place-min : goal.returns-then-place-min
returns-then-place-min g c =
    let levels = g.K.Kind.levels in
    let self = c.args.self.now in
    let none = subst (λ (ds : List g.row.K.Denot). (p : ℕ) → ComparableAt (map levels ds) (levels c.args.need) p → ⊥) c.needs.ensures.answer c.in_default.ensures.answer in
    let long = held_length levels self.held self.places.now self.within in
    record { refused = inr (λ h. none h.0 h.1, inl (omega (arith, c.min.ensures), refl)); answer = tt; standing = refl; storage = refl }

pub returns : goal.returns
returns g c =
    let levels = g.K.Kind.levels in
    let self = c.args.self.now in
    let none = subst (λ (ds : List g.row.K.Denot). (p : ℕ) → ComparableAt (map levels ds) (levels c.args.need) p → ⊥) c.needs.ensures.answer c.in_default.ensures.answer in
    let long = held_length levels self.held self.places.now self.within in
    record { refused = (λ h. none h.0 h.1, (λ h. omega (arith, c.min.ensures), tt)); answer = refl; standing = refl; storage = refl }
