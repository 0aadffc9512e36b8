-- Each reading up to the top adds its weight to the row, or is no chance. Assumes nothing.
use Rattle.std.proofs.Common.{replicate, sym, subst, arith}
use lib.Ieee.{nan}
use Rattle.std.proofs.lemmas.List.{get_or-take}
use Rattle.readings.specs.Readings.{IsChance}
use Rattle.readings.proofs.Filling.{Filled, filled_none, filled_all, not_all}
use Rattle.readings.proofs.row_of.Goals as goal

pub loop-place-init : goal.loop-place-init
loop-place-init c =
    let readings = c.args.readings.now in
    subst (λ n. Filled readings 0 (replicate n 0)) c.told-readings (filled_none readings)

pub returns-in_err-row : goal.returns-in_err-row
returns-in_err-row c =
    let readings = c.args.readings.now in
    let place = c.loop-place.place in
    let read = get_or-take c.min-read.result readings place nan (omega arith) in
    rw c.from_residual.ensures
    (record { answer = not_all c.args.top readings place (λ chance. c.in_err-row.ensures.answer (subst IsChance (sym read) chance)) (omega arith) (omega arith) })

pub returns : goal.returns
returns c = record { answer = filled_all c.args.top c.loop-place.invariant (omega arith) }
