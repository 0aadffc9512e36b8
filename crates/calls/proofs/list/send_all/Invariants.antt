use Rattle.calls.specs.Pages.{page_of}
use Rattle.calls.proofs.Pages.{SoFar}
use Rattle.calls.proofs.list.send_all.Given as goal

abbrev pub invariant-loop-i : goal.invariant-loop-i
invariant-loop-i g l = SoFar g.K.Kind g.A.Algebra (page_of l.initial.sheet).storage l.calls l.initial.answers l.i (page_of l.sheet) l.answers
