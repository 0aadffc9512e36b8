-- Numbers that two or four bytes spell, one by one and in a row. Assumes nothing.
use Rattle.std.proofs.Common.{◌≡◌, ℕ, zero, suc, ◌-◌, ◌*◌, ◌/◌, ◌<◌, ◌≤◌, List, [], ◌∷◌, ◌++◌, replicate, length, get_or, refl, ap, arith}
use Rattle.std.specs.Int.{w16, w32, from_be_bytes}
use Rattle.std.specs.Simd.{first_chunks}
use Rattle.sheet_file.specs.Layout.{big_endian, words, row_of}

pub two_bytes : (bytes : List ℕ) → length bytes ≡ 2 → from_be_bytes w16 bytes ≡ big_endian bytes
two_bytes [] long = absurd (omega arith)
two_bytes (a ∷ []) long = absurd (omega arith)
two_bytes (a ∷ b ∷ []) long = omega arith
two_bytes (a ∷ b ∷ c ∷ more) long = absurd (omega arith)

pub four_bytes : (bytes : List ℕ) → length bytes ≡ 4 → from_be_bytes w32 bytes ≡ big_endian bytes
four_bytes [] long = absurd (omega arith)
four_bytes (a ∷ []) long = absurd (omega arith)
four_bytes (a ∷ b ∷ []) long = absurd (omega arith)
four_bytes (a ∷ b ∷ c ∷ []) long = absurd (omega arith)
four_bytes (a ∷ b ∷ c ∷ d ∷ []) long = omega arith
four_bytes (a ∷ b ∷ c ∷ d ∷ e ∷ more) long = absurd (omega arith)

-- the words of the chunks that the code cuts, and none behind them
pub word_at : (k : ℕ) (bytes : List ℕ) (place : ℕ) (d : List ℕ) → 2 * k ≤ length bytes → place < k → from_be_bytes w16 (get_or (first_chunks 2 k bytes) place d) ≡ get_or (words bytes) place 0
word_at zero bytes place d long below = absurd (omega arith)
word_at (suc k) [] place d long below = absurd (omega arith)
word_at (suc k) (x ∷ []) place d long below = absurd (omega arith)
word_at (suc k) (x ∷ y ∷ bytes) zero d long below = two_bytes (x ∷ y ∷ []) refl
word_at (suc k) (x ∷ y ∷ bytes) (suc place) d long below = word_at k bytes place d (omega arith) (omega arith)

pub no_word : (bytes : List ℕ) (place : ℕ) → length bytes / 2 ≤ place → 0 ≡ get_or (words bytes) place 0
no_word [] place past = refl
no_word (x ∷ []) place past = refl
no_word (x ∷ y ∷ bytes) zero past = absurd (omega arith)
no_word (x ∷ y ∷ bytes) (suc place) past = no_word bytes place (omega arith)

-- a row, weight by weight
filled : (ws : List ℕ) (top : ℕ) → length ws ≡ top → top ≤ 3 → get_or ws 0 0 ∷ get_or ws 1 0 ∷ get_or ws 2 0 ∷ [] ≡ ws ++ replicate (3 - top) 0
filled [] top long most = ap (λ n. replicate (3 - n) 0) long
filled (a ∷ []) top long most = ap (λ n. a ∷ replicate (3 - n) 0) long
filled (a ∷ b ∷ []) top long most = ap (λ n. a ∷ b ∷ replicate (3 - n) 0) long
filled (a ∷ b ∷ c ∷ []) top long most = ap (λ n. a ∷ b ∷ c ∷ replicate (3 - n) 0) long
filled (a ∷ b ∷ c ∷ d ∷ more) top long most = absurd (omega arith)

length-words : (bytes : List ℕ) (top : ℕ) → length bytes ≡ 2 * top → length (words bytes) ≡ top
length-words [] top long = omega arith
length-words (x ∷ []) top long = absurd (omega arith)
length-words (x ∷ y ∷ bytes) zero long = absurd (omega arith)
length-words (x ∷ y ∷ bytes) (suc top) long = ap suc (length-words bytes top (omega arith))

pub row_filled : (bytes : List ℕ) (top : ℕ) → length bytes ≡ 2 * top → top ≤ 3 → get_or (words bytes) 0 0 ∷ get_or (words bytes) 1 0 ∷ get_or (words bytes) 2 0 ∷ [] ≡ row_of top bytes
row_filled bytes top long most = filled (words bytes) top (length-words bytes top long) most
