-- What a fault is printed as: its number, layer, record and byte.
use Rattle.std.specs.Prelude.{ℕ, List, ◌++◌, codes, decimal}
use Rattle.sheet_file.specs.Layers.{layer_of, word}

abbrev pub fault_text : (number «record» byte : ℕ) → List ℕ
fault_text n r b = codes "fault " ++ (decimal n ++ (codes " " ++ (word (layer_of n) ++ (codes " " ++ (decimal r ++ (codes " " ++ decimal b))))))
