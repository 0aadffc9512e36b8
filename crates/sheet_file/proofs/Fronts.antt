-- The first bytes of a list, one by one, and the rest. Assumes nothing.
use Rattle.std.proofs.Common.{◌≡◌, ℕ, zero, suc, ◌+◌, ◌≤◌, List, [], ◌∷◌, ◌++◌, length, get_or, take, drop, sym, refl, ap, ◌∙◌, add-one, arith, take-append-drop}
use Rattle.std.specs.List.{between}
use Rattle.std.proofs.lemmas.List.{drop_more, take_rest}

-- so many elements from place i on
abbrev pub elements : (n i : ℕ) → List ℕ → List ℕ
elements zero i xs = []
elements (suc n) i xs = get_or xs i 0 ∷ elements n (suc i) xs

take_elements : (n i : ℕ) (xs : List ℕ) → i + n ≤ length xs → take n (drop i xs) ≡ elements n i xs
take_elements zero i xs h = refl
take_elements (suc n) i xs h =
    ap (take (suc n)) (drop_more xs i 0 (omega arith) ∙ ap (λ k. get_or xs i 0 ∷ drop k xs) (add-one i))
    ∙ ap (λ ys. get_or xs i 0 ∷ ys) (take_elements n (suc i) xs (omega arith))

pub first_elements : (n : ℕ) (xs : List ℕ) → n ≤ length xs → xs ≡ elements n 0 xs ++ between n (length xs) xs
first_elements n xs h =
    sym (take-append-drop n xs)
    ∙ ap (λ ys. ys ++ drop n xs) (take_elements n 0 xs (omega arith))
    ∙ ap (λ ys. elements n 0 xs ++ ys) (sym (take_rest xs n))

-- two bytes in front
pub marked : (a b : ℕ) (xs : List ℕ) → 2 ≤ length xs → get_or xs 0 0 ≡ a → get_or xs 1 0 ≡ b → xs ≡ a ∷ b ∷ between 2 (length xs) xs
marked a b xs h first second = first_elements 2 xs h ∙ ap (λ x. x ∷ get_or xs 1 0 ∷ between 2 (length xs) xs) first ∙ ap (λ y. a ∷ y ∷ between 2 (length xs) xs) second
