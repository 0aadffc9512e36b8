-- The fixed algebra without its modulus: whole numbers of any size, positive and negative.
--
-- exact      the same start and the same steps as in the fixed algebra
use Rattle.std.specs.Prelude.{◌-◌, ◌*◌, ◌^◌, ℤ, pos, ◌+ℤ◌, ◌-ℤ◌, ◌*ℤ◌}
use Rattle.std.proofs.Math.IntN.{+ℤ_assoc, +ℤ_comm, +ℤ_idr, -ℤ-+ℤ_cancel}
use Rattle.algebras.specs.Model.{Model}
use Rattle.inclusion_exclusion.specs.WholeNumberLaws.{product_plus}

abbrev pub exact_model : Model
exact_model = record {
  Carrier = ℤ;
  zero = pos 0;
  plus = λ x y. x +ℤ y;
  minus = λ x y. x -ℤ y;
  start = λ components. pos (2 ^ (6 * (8 - components)));
  step = λ chance top component level x. x *ℤ pos (chance component level);
  plus_assoc = +ℤ_assoc;
  plus_comm = +ℤ_comm;
  plus_zero = +ℤ_idr;
  minus_plus = -ℤ-+ℤ_cancel;
  step_plus = λ chance top component level. product_plus (chance component level);
}
