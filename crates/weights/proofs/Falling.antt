-- Rows that fall up to every level: trimmed ones, and those of a card that is blank or has one written. Assumes nothing.
use Rattle.std.proofs.Common.{ℕ, zero, suc, List, [], get_or, set, replicate, inl, inr, arith}
use Rattle.std.proofs.lemmas.Bool.{cases_lt}
use Rattle.weights.specs.Chances.{Falling, trimmed}
use Rattle.weights.proofs.Rows.{weight_trimmed, trimmed_below, trimmed_from, set_row}

pub trimmed_falling : (top : ℕ) (row : List ℕ) → Falling top row → (k : ℕ) → Falling k (trimmed top row)
trimmed_falling top row falls k l h =
    elim (cases_lt l top) [
      | inl under ↦ omega (arith, falls l under, trimmed_below top row l under, weight_trimmed top row l (omega arith))
      | inr over ↦ omega (arith, trimmed_from top row l over)
    ]

-- a row of zeros, and no row, is its own trimming to level 0
copies_falling : (n i k : ℕ) (row : List ℕ) → Falling k (trimmed 0 row) → Falling k (get_or (replicate n (trimmed 0 row)) i [])
copies_falling zero i k row falls = trimmed_falling 0 [] (λ l h. omega arith) k
copies_falling (suc n) zero k row falls = falls
copies_falling (suc n) (suc i) k row falls = copies_falling n i k row falls

pub blank_falling : (i k : ℕ) → Falling k (get_or (replicate 8 (replicate 3 0)) i [])
blank_falling i k = copies_falling 8 i k (replicate 3 0) (trimmed_falling 0 (replicate 3 0) (λ l h. omega arith) k)

pub set_falling : (card : List (List ℕ)) (i : ℕ) (row : List ℕ) (k : ℕ) → ((j : ℕ) → Falling k (get_or card j [])) → Falling k row → (j : ℕ) → Falling k (get_or (set card i row) j [])
set_falling card i row k all falls j = set_row (λ i. Falling k) card i row j falls (all j)
