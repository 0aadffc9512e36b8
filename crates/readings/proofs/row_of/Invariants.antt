use Rattle.readings.proofs.Filling.{Filled}
use Rattle.readings.proofs.row_of.Given as goal

abbrev pub invariant-loop-place : goal.invariant-loop-place
invariant-loop-place l = Filled l.readings l.place l.row
