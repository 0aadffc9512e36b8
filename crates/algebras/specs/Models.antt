-- The models of the three algebras.
--
-- fixed          numbers modulo 2^64: the start has a factor 64 for each of the 8 components that takes no step, and a step multiplies by the chance, in 64ths
-- count          numbers modulo 2^64: the start is 1, and a step multiplies by how many levels there are from the given one up to the top
-- polynomial     polynomials in p, as functions from exponents to coefficients modulo 2^64: the start is 1, and a step multiplies by p^level
-- shifted        a polynomial multiplied by p^level, with the powers above 24, 8 components times 3 levels, dropped
use Rattle.std.specs.Prelude.{ℕ, zero, suc, ◌+◌, ◌-◌, ◌*◌, ◌^◌, cond, ◌&&◌, nat_le}
use Rattle.std.proofs.Math.Path.{fun_ext}
use Rattle.algebras.specs.Model.{Model}
use Rattle.algebras.specs.Residues.{Number, number, plus, minus, scaled}
use Rattle.algebras.specs.ResidueLaws.{plus_assoc, plus_comm, plus_zero, minus_plus, scaled_plus, kept_plus}

-- numbers modulo 2^64, by the number to start from and the factor of a step
abbrev pub scaling_model : (ℕ → ℕ) → ((ℕ → ℕ → ℕ) → ℕ → ℕ → ℕ → ℕ) → Model
scaling_model start factor = record {
  Carrier = Number;
  zero = number 0;
  plus = plus;
  minus = minus;
  start = λ components. number (start components);
  step = λ chance top component level. scaled (factor chance top component level);
  plus_assoc = plus_assoc;
  plus_comm = plus_comm;
  plus_zero = plus_zero;
  minus_plus = minus_plus;
  step_plus = λ chance top component level. scaled_plus (factor chance top component level);
}

abbrev pub fixed_model : Model
fixed_model = scaling_model (λ components. 2 ^ (6 * (8 - components))) (λ chance top component level. chance component level)

abbrev pub count_model : Model
count_model = scaling_model (λ components. 1) (λ chance top component level. top + 1 - level)

abbrev pub Polynomials : Type 0
Polynomials = ℕ → Number

abbrev pub one : Polynomials
one zero = number 1
one (suc k) = number 0

abbrev pub shifted : ℕ → Polynomials → Polynomials
shifted level f k = cond (nat_le level k && nat_le k 24) (f (k - level)) (number 0)

abbrev pub polynomial_model : Model
polynomial_model = record {
  Carrier = Polynomials;
  zero = λ k. number 0;
  plus = λ f g k. plus (f k) (g k);
  minus = λ f g k. minus (f k) (g k);
  start = λ components. one;
  step = λ chance top component level. shifted level;
  plus_assoc = λ f g h. fun_ext (λ k. plus_assoc (f k) (g k) (h k));
  plus_comm = λ f g. fun_ext (λ k. plus_comm (f k) (g k));
  plus_zero = λ f. fun_ext (λ k. plus_zero (f k));
  minus_plus = λ f g. fun_ext (λ k. minus_plus (f k) (g k));
  step_plus = λ chance top component level f g. fun_ext (λ k. kept_plus (nat_le level k && nat_le k 24) (f (k - level)) (g (k - level)));
}
