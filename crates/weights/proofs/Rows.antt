-- What trimming leaves of a row, and a row written into a card. Assumes nothing.
use Rattle.std.proofs.Common.{◌≡◌, ℕ, zero, suc, ◌<◌, ◌≤◌, List, [], ◌∷◌, length, get_or, set, refl, ap, arith}
use Rattle.weights.specs.Chances.{weight, trimmed}

-- what a trimmed row keeps, and what it notes as 0
pub trimmed_below : (top : ℕ) (row : List ℕ) (k : ℕ) → k < top → get_or (trimmed top row) k 0 ≡ get_or row k 0
trimmed_below top [] k h = refl
trimmed_below zero (w ∷ row) k h = omega arith
trimmed_below (suc top) (w ∷ row) zero h = refl
trimmed_below (suc top) (w ∷ row) (suc k) h = trimmed_below top row k (omega arith)

pub trimmed_from : (top : ℕ) (row : List ℕ) (k : ℕ) → top ≤ k → get_or (trimmed top row) k 0 ≡ 0
trimmed_from top [] k h = refl
trimmed_from zero (w ∷ row) zero h = refl
trimmed_from zero (w ∷ row) (suc k) h = trimmed_from zero row k (omega arith)
trimmed_from (suc top) (w ∷ row) zero h = omega arith
trimmed_from (suc top) (w ∷ row) (suc k) h = trimmed_from top row k (omega arith)

pub length_trimmed : (top : ℕ) (row : List ℕ) → length (trimmed top row) ≡ length row
length_trimmed top [] = refl
length_trimmed zero (w ∷ row) = ap suc (length_trimmed zero row)
length_trimmed (suc top) (w ∷ row) = ap suc (length_trimmed top row)

pub weight_trimmed : (top : ℕ) (row : List ℕ) (l : ℕ) → l ≤ top → weight (trimmed top row) l ≡ weight row l
weight_trimmed top row zero h = refl
weight_trimmed top row (suc l) h = trimmed_below top row l (omega arith)

-- what holds of a new row in its place, and of what another place had, holds of what that place has once the row is written
pub set_row : (P : ℕ → List ℕ → Type 0) (card : List (List ℕ)) (i : ℕ) (row : List ℕ) (j : ℕ) → P i row → P j (get_or card j []) → P j (get_or (set card i row) j [])
set_row P [] i row j new old = old
set_row P (x ∷ card) zero row zero new old = new
set_row P (x ∷ card) zero row (suc j) new old = old
set_row P (x ∷ card) (suc i) row zero new old = old
set_row P (x ∷ card) (suc i) row (suc j) new old = set_row (λ k. P (suc k)) card i row j new old

pub trimmed_trimmed : (top : ℕ) (row : List ℕ) → trimmed top (trimmed top row) ≡ trimmed top row
trimmed_trimmed top [] = refl
trimmed_trimmed zero (w ∷ row) = ap (λ rest. 0 ∷ rest) (trimmed_trimmed zero row)
trimmed_trimmed (suc top) (w ∷ row) = ap (λ rest. w ∷ rest) (trimmed_trimmed top row)
