-- What machine values mean.
--
-- meaning        the number modulo 2^64 that a residue holds
-- coefficients   the polynomial that an array of residues holds: 0 past the array's end
use Rattle.std.specs.Prelude.{slice_index_or}
use Rattle.algebras.specs.Residues.{Number, number}
use Rattle.algebras.specs.Models.{Polynomials}
use Rattle.algebras.specs.declared.residue.Residue.{Residue}
use Rattle.algebras.specs.declared.polynomial.Coefficients.{Coefficients}

abbrev pub meaning : Residue → Number
meaning r = number r.bits

abbrev pub coefficients : Coefficients → Polynomials
coefficients c k = meaning (slice_index_or c.of k (record { bits = 0 }))
