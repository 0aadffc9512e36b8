-- Numbers modulo 2^64 as an image of the whole numbers, from which their signed reading leads back where it has room. Assumes nothing.
use Rattle.std.proofs.Common.{◌≡◌, ℕ, zero, suc, ℤ, pos, negsuc, ◌+ℤ◌, sym, refl, ap, ◌∙◌, arith, w64, SFits, to_z, of_z}
use Rattle.std.proofs.lemmas.Int.{ints, to_z-of_z}
use Rattle.algebras.specs.Residues.{Number, number, plus, minus, signed}
use Rattle.algebras.specs.ResidueLaws.{same_number}
use Rattle.algebras.specs.Models.{fixed_model}
use Rattle.totals.proofs.Groups.{minus_from}
use Rattle.inclusion_exclusion.specs.States.{times}
use Rattle.inclusion_exclusion.proofs.Laws.{times_plus}

abbrev pub wrapped : ℤ → Number
wrapped z = times fixed_model z (number 1)

pub wrapped_plus : (y z : ℤ) → wrapped (y +ℤ z) ≡ plus (wrapped y) (wrapped z)
wrapped_plus y z = times_plus fixed_model y z (number 1)

pub wrapped_pos : (n : ℕ) → wrapped (pos n) ≡ number n
wrapped_pos zero = refl
wrapped_pos (suc n) = ap (plus (number 1)) (wrapped_pos n) ∙ same_number (omega arith)

wrapped_negsuc : (n : ℕ) → wrapped (negsuc n) ≡ minus (number 0) (number (suc n))
wrapped_negsuc n =
    minus_from fixed_model (number 0) (number (suc n)) (wrapped (negsuc n))
    (ap (plus (wrapped (negsuc n))) (sym (wrapped_pos (suc n))) ∙ sym (wrapped_plus (negsuc n) (pos (suc n))) ∙ ap wrapped {x = negsuc n +ℤ pos (suc n)} {y = pos 0} (omega (arith, ints)))

wrapped_value : (z : ℤ) → SFits w64 z → (wrapped z).value ≡ of_z w64 z
wrapped_value (pos n) fits = ap (λ x. x.value) (wrapped_pos n) ∙ omega arith
wrapped_value (negsuc n) fits = ap (λ x. x.value) (wrapped_negsuc n) ∙ omega arith

pub signed_wrapped : (z : ℤ) → SFits w64 z → signed (wrapped z) ≡ z
signed_wrapped z fits = ap (to_z w64) (wrapped_value z fits) ∙ to_z-of_z w64 z fits
