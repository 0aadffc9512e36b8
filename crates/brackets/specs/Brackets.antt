-- The ends of a bracket, its pair and the verdict on it, in the code's own types.
--
-- ends       the low and the high end, exact
-- pair       the ends in units of 2^-32 of certainty: the low one rounded down, the high one up
-- verdict    what a threshold, in units of 2^-15 of certainty, makes of the exact ends
-- tells      what a verdict says of the reliability
-- decided    a verdict that says something
use Rattle.std.specs.Prelude.{ℕ, ◌*◌, ◌^◌, cond, List, ℤ, pos, ◌≤ℤ◌, ◌<ℤ◌}
use Rattle.needs.specs.Levels.{Need}
use Rattle.totals.specs.Choices.{Setting}
use Rattle.inclusion_exclusion.specs.Bonferroni.{low, high, rounded, is_sound, wants_attention}
use Rattle.brackets.specs.declared.ends.Ends.{Ends}
use Rattle.brackets.specs.declared.verdict.Verdict.{Verdict}
use Rattle.brackets.specs.declared.verdict.Verdict.TheVariants.{Sound, Attention, Undecided}

abbrev pub both : ℤ → ℤ → Ends
both l h = record { low = l; high = h }

abbrev pub ends : Setting → List Need → (depth : ℕ) → Ends
ends s ds depth = both (low s ds depth) (high s ds depth)

abbrev pub pair : Ends → ℕ × ℕ
pair e = rounded e.low e.high

abbrev pub verdict : Ends → (threshold : ℕ) → Verdict
verdict e t = cond (is_sound e.low t) Sound (cond (wants_attention e.high t) Attention Undecided)

abbrev pub Tells : (reliability : ℤ) (threshold : ℕ) → Verdict → Type 0
Tells e t Sound = pos (t * 2 ^ 33) ≤ℤ e
Tells e t Attention = e <ℤ pos (t * 2 ^ 33)
Tells e t Undecided = Unit {0}

abbrev pub Decided : Verdict → Type 0
Decided Sound = Unit {0}
Decided Attention = Unit {0}
Decided Undecided = ⊥
