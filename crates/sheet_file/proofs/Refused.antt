-- What `ok_or(..)?` and `map_err(..)?` leave with. Assumes nothing.
use Rattle.std.proofs.Common.{◌≡◌, None, Some, Err, Ok, Option, Result, MatchResult, sym, refl, ◌∙◌, subst}
use Rattle.std.proofs.lemmas.Result.{err_from_is_err_and}
use Rattle.std.specs.Option.{ok_or}
use Rattle.std.specs.Result.{IsErrAnd}
use Rattle.sheets.specs.declared.refusal.Refusal.{Refusal}

-- the refusal that `ok_or(..)?` names
pub named : {A : Type 0} (o : Option A) {e why : Refusal} → o ≡ None → Err e ≡ ok_or o why → e ≡ why
named None none value = (cc)
named (Some x) none value = absurd (cc)

-- what `map_err(..)?` goes on with, and leaves with
module _ {T E D : Type 0} (P : E → D → Type 0) where
  pub kept : (r : Result T E) (m : Result T D) {x : T} → MatchResult r (λ y. m ≡ Ok y) (λ e. IsErrAnd m (P e)) → m ≡ Ok x → r ≡ Ok x
  kept (Ok y) m told was = let f = sym told ∙ was in (cc)
  kept (Err e) m told was = let p = err_from_is_err_and m told in let f = sym p.1 ∙ was in absurd (cc)

  pub turned : (r : Result T E) (m : Result T D) {d : D} → MatchResult r (λ y. m ≡ Ok y) (λ e. IsErrAnd m (P e)) → m ≡ Err d → (e : E) × (r ≡ Err e) × P e d
  turned (Ok y) m told was = let f = sym told ∙ was in absurd (cc)
  turned (Err e) m {d} told was =
      let p = err_from_is_err_and m told in
      let f = sym p.1 ∙ was in
      let same : p.0 ≡ d = (cc) in
      (e, refl, subst (P e) same p.2)
