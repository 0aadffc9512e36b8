use Rattle.totals.proofs.Passes.{Accumulated}
use Rattle.totals.proofs.by_depth.accumulate.Given as goal

abbrev pub invariant-loop-i : goal.invariant-loop-i
invariant-loop-i g l = Accumulated g.A.Algebra.model g.A.Algebra.means l.initial.values l.i l.total l.values
