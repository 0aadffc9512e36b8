-- Steps of the book, from what the calls of a sheet promise. Assumes nothing.
use Rattle.std.proofs.Common.{◌≡◌, ℕ, Bool, true, false, List, map, IsErrAnd, Result, sym, refl, ap, ◌∙◌, subst, arith}
use Rattle.std.proofs.lemmas.Result.{err_from_is_err_and}
use Rattle.needs.specs.declared.Kind.{Ghosts as KindGhosts}
use Rattle.algebras.specs.declared.Algebra.{Ghosts as AlgebraGhosts}
use Rattle.sheets.specs.Standings.{Standing}
use Rattle.sheets.specs.Causes.{First, ToldPlace}
use Rattle.sheets.specs.Refusals.{number, place}
use Rattle.sheets.specs.declared.refusal.Refusal.{Refusal}
use Rattle.calls.specs.declared.call.Call.{Call}
use Rattle.calls.specs.declared.call.Call.TheVariants.{Size, Set, SetByReadings, Fit, Strike, PutOut, Find, Total, Bracket, Judge, Try, CallIn}
use Rattle.calls.specs.declared.answer.Answer.{Answer}
use Rattle.calls.specs.Book.{Side, page, taken_in, causes_at, Told}
use Rattle.calls.specs.Book.Step.{refused}
use Rattle.calls.specs.Pages.{answer_of, StepOf}

module _ {K A V : Type 0} (kind : KindGhosts K) (own : AlgebraGhosts A V) where
  abbrev fits : Call K → Bool
  fits (Size n) = false
  fits (Set i row) = false
  fits (SetByReadings i readings) = false
  fits (Fit d) = true
  fits (Strike p) = false
  fits PutOut = false
  fits (Find d) = false
  fits (Total algebra r) = false
  fits (Bracket r) = false
  fits (Judge r t) = false
  fits (Try i what r) = false
  fits CallIn = false

  abbrev CausesAt : Side → Standing K → List K → Call K → List (ℕ × Type 0)
  CausesAt side s storage = causes_at kind.levels kind.TOP own.model own.means (page side s storage)

  abbrev Tells : Call K → Standing K → Refusal → Type 0
  Tells = Told kind.levels kind.TOP own.model own.means

  -- a call that is refused leaves the page
  module _ (side : Side) (s s' : Standing K) (storage storage' : List K) (e : Refusal) (r : Result (Answer K V) Refusal) (returned : IsErrAnd r (λ x. x ≡ e))
      (stands : s' ≡ s) (stores : storage' ≡ storage) (call : Call K) where
    abbrev Goal : Type 0
    Goal = StepOf kind own call (page side s storage) (answer_of r) (page side s' storage')

    step : (c : Call K) → call ≡ c → taken_in c ≡ side → First (CausesAt side s storage c) (number e) → Tells c s e → Goal
    step c is here first told =
        let p = err_from_is_err_and r returned in
        rw (p.1, p.2, is) (refused here e first told refl (ap (λ t. page side t storage') stands ∙ ap (page side s) stores))

    -- only a fit tells a place
    pub step_refused : (c : Call K) → call ≡ c → taken_in c ≡ side → fits c ≡ false → First (CausesAt side s storage c) (number e) → Goal
    step_refused c is here other first =
        step c is here first (λ d fit. let clash : true ≡ false = sym (ap fits fit) ∙ other in let z : ◌≡◌ {A = ℕ} 0 1 = cc in absurd (omega arith))

    pub step_unfit : (d : K) → call ≡ Fit d → taken_in (Fit d) ≡ side → ToldPlace (map kind.levels s.needs) (kind.levels d) (place e) → First (CausesAt side s storage (Fit d)) (number e) → Goal
    step_unfit d is here told first =
        step (Fit d) is here first (λ d' fit. let same : d ≡ d' = cc in subst (λ x. ToldPlace (map kind.levels s.needs) (kind.levels x) (place e)) same told)
