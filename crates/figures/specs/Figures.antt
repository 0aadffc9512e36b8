-- Worked figures: three sheets, what is asked of them, and the answers.
--
-- sheet A    plain, three components with chances 48, 32 and 32, needs 3 and 5
-- sheet B    graded, two components with chances (64, 32, 0) and (32, 32, 32), needs 2 and 4
-- sheet N    a plain sheet as opened, with no need
-- holds      a figure is what the definitions give
use Rattle.std.specs.Prelude.{◌≡◌, ℕ, zero, suc, ◌*◌, ◌^◌, List, [], ◌∷◌, ◌++◌, replicate, ℤ, pos, negsuc}
use Rattle.std.specs.List.{AllByRecursion}
use Rattle.needs.specs.Levels.{Need, digit}
use Rattle.algebras.specs.Residues.{signed}
use Rattle.algebras.specs.Models.{fixed_model, polynomial_model, count_model}
use Rattle.brackets.specs.Brackets.{pair, verdict}
use Rattle.brackets.specs.declared.verdict.Verdict.{Verdict}
use Rattle.brackets.specs.declared.verdict.Verdict.TheVariants.{Sound, Attention, Undecided}
use Rattle.sheets.specs.Standings.{Standing, opened}
use Rattle.sheets.specs.Answers.{road_total, road_ends, reliability_of}

pub record Example : Type 0 where
  pub levels : ℕ → Need
  pub top : ℕ
  pub standing : Standing ℕ

abbrev pub card : List (List ℕ) → (spare : ℕ) → List (List ℕ)
card rows spare = rows ++ replicate spare (replicate 3 0)

abbrev pub sheet_a : Example
sheet_a = record {
  levels = digit 2;
  top = 1;
  standing = record { needs = 3 ∷ 5 ∷ []; components = 3; card = card ((48 ∷ 0 ∷ 0 ∷ []) ∷ (32 ∷ 0 ∷ 0 ∷ []) ∷ (32 ∷ 0 ∷ 0 ∷ []) ∷ []) 5 };
}

abbrev pub sheet_b : Example
sheet_b = record {
  levels = digit 4;
  top = 3;
  standing = record { needs = 2 ∷ 4 ∷ []; components = 2; card = card ((64 ∷ 32 ∷ 0 ∷ []) ∷ (32 ∷ 32 ∷ 32 ∷ []) ∷ []) 6 };
}

abbrev pub sheet_n : Example
sheet_n = record { levels = digit 2; top = 1; standing = opened }

pub data Figure : Type 0 where
  fixed : Example → (depth : ℕ) → ℤ → Figure
  -- the coefficients of the powers 0, 1 and on
  polynomial : Example → (depth : ℕ) → List ℤ → Figure
  count : Example → (depth : ℕ) → ℕ → Figure
  bracketed : Example → (depth : ℕ) → ℕ × ℕ → Figure
  judged : Example → (depth threshold : ℕ) → Verdict → Figure
  -- the exact reliability, from the states
  reliable : Example → ℤ → Figure

-- the first coefficients, as many as there are powers from k on
abbrev pub from_power : (ℕ → ℤ) → ℕ → (count : ℕ) → List ℤ
from_power f k zero = []
from_power f k (suc n) = f k ∷ from_power f (suc k) n

abbrev pub Holds : Figure → Type 0
Holds (fixed x r z) = signed (road_total x.levels x.top x.standing fixed_model r) ≡ z
Holds (polynomial x r zs) =
    from_power (λ k. signed (road_total x.levels x.top x.standing polynomial_model r k)) 0 25 ≡ zs
Holds (count x r n) = (road_total x.levels x.top x.standing count_model r).value ≡ n
Holds (bracketed x r p) = pair (road_ends x.levels x.top x.standing r) ≡ p
Holds (judged x r t v) = verdict (road_ends x.levels x.top x.standing r) t ≡ v
Holds (reliable x z) = reliability_of x.levels x.top x.standing ≡ z

abbrev pub powers : List ℤ → (more : ℕ) → List ℤ
powers zs more = zs ++ replicate more (pos 0)

abbrev pub figures : List Figure
figures =
    fixed sheet_a 1 (pos (3 * 2 ^ 46))
    ∷ fixed sheet_a 2 (pos (9 * 2 ^ 44))
    ∷ polynomial sheet_a 1 (powers (pos 0 ∷ pos 0 ∷ pos 2 ∷ []) 22)
    ∷ polynomial sheet_a 2 (powers (pos 0 ∷ pos 0 ∷ pos 2 ∷ negsuc 0 ∷ []) 21)
    ∷ count sheet_a 1 4
    ∷ count sheet_a 2 3
    ∷ judged sheet_a 1 16384 Undecided
    ∷ judged sheet_a 2 16384 Sound
    ∷ judged sheet_a 1 24576 Undecided
    ∷ judged sheet_a 2 24576 Attention
    ∷ judged sheet_a 2 18432 Sound
    ∷ polynomial sheet_b 2 (powers (pos 0 ∷ pos 1 ∷ pos 1 ∷ negsuc 0 ∷ []) 21)
    ∷ count sheet_b 2 14
    ∷ fixed sheet_b 2 (pos (3 * 2 ^ 46))
    ∷ bracketed sheet_n 1 (0, 0)
    ∷ judged sheet_n 1 0 Sound
    ∷ judged sheet_n 1 1 Attention
    ∷ reliable sheet_a (pos (9 * 2 ^ 44))
    ∷ reliable sheet_b (pos (3 * 2 ^ 46))
    ∷ reliable sheet_n (pos 0)
    ∷ []

abbrev pub FiguresHold : Type 0
FiguresHold = AllByRecursion Holds figures
