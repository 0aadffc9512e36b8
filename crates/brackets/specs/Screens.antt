-- What the dispatch screen shows of a bracket, as floats.
--
-- share      of a number: the float nearest to it, divided by 2^32, which stands for certainty
use Rattle.std.specs.Prelude.{ℕ, ◌^◌, pos, Float}
use Rattle.std.specs.Float.{binary64}
use Rattle.std.specs.Float.Ieee.{of_int, div}

abbrev pub share : ℕ → Float
share n = div binary64 (of_int binary64 (pos n)) (of_int binary64 (pos (2 ^ 32)))
