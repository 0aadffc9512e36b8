-- The lines of a report, in bytes.
--
-- decimal    a number in decimal digits; `signed` with a minus where it is negative
-- depth line depth, bracket and verdict
-- poly line  the coefficients of the polynomial total, from the power 0 up
-- states     the number of states in which a warning arrives
-- fault      number, layer, record and byte
use Rattle.std.specs.Prelude.{ℕ, zero, suc, ◌+◌, ◌*◌, max, List, [], ◌∷◌, ◌++◌, length, ℤ, codes, decimal}
use Rattle.std.specs.Fmt.{signed_decimal}
use Rattle.needs.specs.Levels.{Need}
use Rattle.algebras.specs.Residues as residues
use Rattle.algebras.specs.Models.{polynomial_model, count_model}
use Rattle.brackets.specs.Brackets.{pair, verdict}
use Rattle.brackets.specs.Words.{word}
use Rattle.brackets.specs.declared.ends.Ends.{Ends}
use Rattle.sheets.specs.Standings.{Standing}
use Rattle.sheets.specs.Answers.{road_total, road_ends}

abbrev pub newline : List ℕ
newline = 10 ∷ []

abbrev pub sheet_line : (kind : List ℕ) (components threshold : ℕ) → List ℕ
sheet_line kind n t = codes "sheet " ++ (kind ++ (codes " " ++ (decimal n ++ (codes " " ++ (decimal t ++ newline)))))

abbrev pub depth_line : Ends → (threshold depth : ℕ) → List ℕ
depth_line e t depth =
    codes "depth " ++ (decimal depth ++ (codes " " ++ (decimal (pair e).0 ++ (codes " " ++ (decimal (pair e).1 ++ (codes " " ++ (word (verdict e t) ++ newline)))))))

-- the lines of depths 1, 2 and on, so many
abbrev pub depth_lines : (ends : ℕ → Ends) (threshold : ℕ) → (count : ℕ) → List ℕ
depth_lines e t zero = []
depth_lines e t (suc k) = depth_lines e t k ++ depth_line (e (suc k)) t (suc k)

-- the coefficients of the powers 0, 1 and on, so many
abbrev pub coefficients : (ℕ → ℤ) → (count : ℕ) → List ℕ
coefficients f zero = []
coefficients f (suc k) = coefficients f k ++ (codes " " ++ signed_decimal (f k))

abbrev pub poly_line : (ℕ → ℤ) → (count : ℕ) → List ℕ
poly_line f count = codes "poly" ++ (coefficients f count ++ newline)

abbrev pub states_line : ℕ → List ℕ
states_line n = codes "states " ++ (decimal n ++ newline)

module _ {K : Type 0} (levels : K → Need) (top : ℕ) (s : Standing K) where
  -- full depth, where the report ends
  abbrev pub last_depth : ℕ
  last_depth = max (length s.needs) 1

  -- the coefficients of the polynomial total, up to the greatest power that a sheet can have
  abbrev pub polynomial_line : (depth : ℕ) → List ℕ
  polynomial_line depth = poly_line (λ k. residues.signed (road_total levels top s polynomial_model depth k)) (s.components * top + 1)

  abbrev pub count_line : (depth : ℕ) → List ℕ
  count_line depth = states_line (road_total levels top s count_model depth).value

  abbrev pub report_text : (kind : List ℕ) (threshold : ℕ) → List ℕ
  report_text kind t =
      sheet_line kind s.components t
      ++ (depth_lines (road_ends levels top s) t last_depth
      ++ (polynomial_line last_depth
      ++ count_line last_depth))
