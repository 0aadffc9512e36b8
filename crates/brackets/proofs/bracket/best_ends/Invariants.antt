use Rattle.std.proofs.Common.{◌≡◌, ℕ, ℤ}
use Rattle.brackets.specs.Readings.{ReadsAs, best_so_far}
use Rattle.brackets.proofs.bracket.best_ends.Given as goal

-- the best ends among the depths up to i
abbrev pub invariant-loop-i : goal.invariant-loop-i
invariant-loop-i l = (t : ℕ → ℤ) → ReadsAs l.totals t → l.best ≡ best_so_far t l.i
