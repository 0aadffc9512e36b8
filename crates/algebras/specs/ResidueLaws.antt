-- The laws of numbers modulo 2^64 that the models hold. Assumes nothing.
use Rattle.std.specs.Prelude.{◌≡◌, ℕ, ◌+◌, ◌*◌, ◌%◌, ◌^◌, ◌<◌, Bool, true, false, cond, refl}
use mathlib.Core.HLevel.{is_prop→PathP}
use Rattle.std.proofs.Common.{ap, ◌∙◌, add-mul, arith}
use Rattle.std.proofs.Math.Bridge.{le_prop}
use Rattle.std.proofs.Math.Nat.{add-mod}
use Rattle.std.proofs.lemmas.Nat.{mul-mod_first}
use Rattle.algebras.specs.Residues.{Number, number, plus, minus, scaled}

-- numbers are equal where their values are
pub same_number : {x y : Number} → x.value ≡ y.value → x ≡ y
same_number {x} {y} p = λ i. record { value = p i; below = is_prop→PathP (λ j. p j < 2 ^ 64) (λ j. le_prop) x.below y.below i }

pub plus_assoc : (x y z : Number) → plus (plus x y) z ≡ plus x (plus y z)
plus_assoc x y z = same_number (omega arith)

pub plus_comm : (x y : Number) → plus x y ≡ plus y x
plus_comm x y = same_number (omega arith)

pub plus_zero : (x : Number) → plus x (number 0) ≡ x
plus_zero x = same_number (omega arith)

pub minus_plus : (x y : Number) → plus (minus x y) y ≡ x
minus_plus x y = same_number (omega arith)

pub scaled_plus : (g : ℕ) (x y : Number) → scaled g (plus x y) ≡ plus (scaled g x) (scaled g y)
scaled_plus g x y = same_number (mul-mod_first (x.value + y.value) g (2 ^ 64) ∙ ap (λ n. n % 2 ^ 64) (add-mul x.value y.value g) ∙ add-mod (x.value * g) (y.value * g) (2 ^ 64))

-- a number that a test keeps or drops
pub kept_plus : (b : Bool) (x y : Number) → cond b (plus x y) (number 0) ≡ plus (cond b x (number 0)) (cond b y (number 0))
kept_plus true x y = refl
kept_plus false x y = refl
