-- Who meets a fault: numbers 12 and above are the reader's own, the others the sheet's.
use Rattle.std.specs.Prelude.{ℕ, cond, List, codes, nat_lt}
use Rattle.sheet_file.specs.declared.fault.Layer.{Layer}
use Rattle.sheet_file.specs.declared.fault.Layer.TheVariants.{Sheet, Reader}

abbrev pub layer_of : ℕ → Layer
layer_of number = cond (nat_lt number 12) Sheet Reader

abbrev pub word : Layer → List ℕ
word Sheet = codes "sheet"
word Reader = codes "reader"
