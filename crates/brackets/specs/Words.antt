-- The word that a verdict is written as, in bytes.
use Rattle.std.specs.Prelude.{ℕ, List, codes}
use Rattle.brackets.specs.declared.verdict.Verdict.{Verdict}
use Rattle.brackets.specs.declared.verdict.Verdict.TheVariants.{Sound, Attention, Undecided}

abbrev pub word : Verdict → List ℕ
word Sound = codes "sound"
word Attention = codes "attention"
word Undecided = codes "undecided"
