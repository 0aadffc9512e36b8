use Rattle.std.proofs.Common.{◌≡◌, ◌++◌, string_bytes}
use Rattle.algebras.specs.Meanings as meanings
use Rattle.algebras.specs.Residues.{signed}
use Rattle.reports.specs.Lines.{coefficients}
use Rattle.reports.proofs.lines.push_polynomial.Given as goal

abbrev pub invariant-loop-power : goal.invariant-loop-power
invariant-loop-power g l =
    string_bytes l.text ≡ string_bytes l.initial.text ++ coefficients (λ k. signed (meanings.coefficients l.polynomial k)) l.power
