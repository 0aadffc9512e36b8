-- One total more makes the best ends of one depth more. Assumes nothing.
use Rattle.std.proofs.Common.{◌≡◌, ◌<◌, length, add-one, arith}
use Rattle.std.proofs.lemmas.Bool.Decides.{nat_tests}
use Rattle.std.proofs.lemmas.Int.{to_z-of_z}
use Rattle.brackets.proofs.bracket.best_ends.Goals as goal

pub loop-i-preserved : goal.loop-i-preserved
loop-i-preserved c t reads =
    let within : c.loop-i.i < length c.args.totals.now = omega arith in
    let before = c.loop-i.invariant t reads in
    let here = reads c.loop-i.i (record { bits = 0 }) within in
    rw add-one (grind (arith, nat_tests, to_z-of_z))

pub returns : goal.returns
returns c =
    let all : c.loop-i.i ≡ length c.args.totals.now = omega arith in
    record { answer = rw all at c.loop-i.invariant }
