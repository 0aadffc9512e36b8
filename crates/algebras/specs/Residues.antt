-- Numbers modulo 2^64, and their signed reading.
--
-- value      the number itself, from 0 up to 2^64 - 1
-- number     a natural number reduced modulo 2^64
-- minus      the difference, by the complement: what makes the first again when the second is added
-- scaled     the product with a natural number
-- signed     the reading from -2^63 up to 2^63 - 1
use Rattle.std.specs.Prelude.{ℕ, ◌+◌, ◌-◌, ◌*◌, ◌%◌, ◌^◌, ◌<◌, ℤ}
use Rattle.std.proofs.Common.{lit<, to_z, mod-lt}
use Rattle.std.specs.Int.{w64}

pub record Number : Type 0 where
  pub value : ℕ
  pub below : value < 2 ^ 64

abbrev pub number : ℕ → Number
number n = record { value = n % 2 ^ 64; below = mod-lt n (lit< tt) }

abbrev pub plus : Number → Number → Number
plus x y = number (x.value + y.value)

abbrev pub minus : Number → Number → Number
minus x y = number (x.value + (2 ^ 64 - y.value))

abbrev pub scaled : ℕ → Number → Number
scaled factor x = number (x.value * factor)

abbrev pub signed : Number → ℤ
signed x = to_z w64 x.value
