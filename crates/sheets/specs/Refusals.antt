-- What is told of each refusal: its number, and the place that goes with one of them.
use Rattle.std.specs.Prelude.{ℕ, Some, None, Option}
use Rattle.sheets.specs.declared.refusal.Refusal.{Refusal}
use Rattle.sheets.specs.declared.refusal.Refusal.TheVariants.{UnknownComponent, RisingWeights, BadReading, EmptyNeed, Comparable, Full}
use Rattle.sheets.specs.declared.refusal.Refusal.TheVariants.{NotHeld, BadDepth, BadThreshold, BadSize, NeedsHeld, WrongMark, Truncated, TrailingBytes}

abbrev pub told : Refusal → ℕ × Option ℕ
told UnknownComponent = (1, None)
told RisingWeights = (2, None)
told BadReading = (3, None)
told EmptyNeed = (4, None)
told (Comparable p) = (5, Some p)
told Full = (6, None)
told NotHeld = (7, None)
told BadDepth = (8, None)
told BadThreshold = (9, None)
told BadSize = (10, None)
told NeedsHeld = (11, None)
told WrongMark = (12, None)
told Truncated = (13, None)
told TrailingBytes = (14, None)

abbrev pub number : Refusal → ℕ
number e = (told e).0

abbrev pub place : Refusal → Option ℕ
place e = (told e).1
