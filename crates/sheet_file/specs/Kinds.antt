-- The kinds of sheet file: the byte that stands for each, and the word that it is printed as.
use Rattle.std.specs.Prelude.{◌≡◌, ℕ, List, codes, Result, MatchResult, ◌≢◌}
use Rattle.sheet_file.specs.declared.kind.FileKind.{FileKind}
use Rattle.sheet_file.specs.declared.kind.FileKind.TheVariants.{Plain, Graded}
use Rattle.sheet_file.specs.declared.kind.UnknownKind.{UnknownKind}

abbrev pub byte_of : FileKind → ℕ
byte_of Plain = 1
byte_of Graded = 2

-- the kind that the byte stands for, or the byte where it stands for none
abbrev pub Decodes : ℕ → Result FileKind UnknownKind → Type 0
Decodes byte r = MatchResult r (λ kind. byte_of kind ≡ byte) (λ e. (e.0 ≡ byte) × ((kind : FileKind) → byte_of kind ≢ byte))

abbrev pub word : FileKind → List ℕ
word Plain = codes "plain"
word Graded = codes "graded"
