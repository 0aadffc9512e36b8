-- What one step answers, and what holds of the standing after it. Assumes nothing.
use Rattle.std.proofs.Common.{◌≡◌, ℕ, suc, List, map, sym, ap, ◌∙◌, subst, inl, inr, arith}
use Rattle.std.proofs.lemmas.Bool.{cases_lt}
use Rattle.needs.specs.Levels.{Need}
use Rattle.weights.specs.Chances.{weight, Falling}
use Rattle.readings.specs.Readings.{sixty_fourths}
use Rattle.algebras.specs.Model.{Model}
use Rattle.brackets.specs.Brackets.{pair, verdict}
use Rattle.brackets.specs.declared.verdict.Verdict.{Verdict}
use Rattle.sheets.specs.Standings.{Standing, weighted}
use Rattle.sheets.specs.Causes.{Accepted}
use Rattle.sheets.specs.Answers.{road_ends}
use Rattle.sheets.specs.declared.refusal.Refusal.{Refusal}
use Rattle.calls.specs.declared.call.Call.{Call}
use Rattle.calls.specs.declared.call.Call.TheVariants.{Set, SetByReadings, Bracket, Judge, Try}
use Rattle.calls.specs.declared.answer.Answer.{Answer}
use Rattle.calls.specs.declared.answer.Answer.TheVariants as answer
use Rattle.calls.specs.Book.{Page, turned, Answers, causes_at, Step, elsewhere, refused, accepted}
use Rattle.calls.specs.Law.{AsksBracket, Sets}

-- a row that is not refused falls
pub falls : (top : ℕ) (row : List ℕ) → ((Falling top row → ⊥) → ⊥) → Falling top row
falls top row not-refused l under = elim (cases_lt (weight row l) (weight row (suc l))) [
  | inl rises ↦ absurd (not-refused (λ falling. omega (arith, falling l under)))
  | inr falling ↦ falling
]

never : ◌≡◌ {A = ℕ} 0 1 → ⊥
never is = omega arith

module _ {K V : Type 0} where
  same_pair : (x y : ℕ × ℕ) → ◌≡◌ {A = Answer K V} (answer.Bracket x) (answer.Bracket y) → x ≡ y
  same_pair x y is = cc

  same_verdict : (x y : Verdict) → ◌≡◌ {A = Answer K V} (answer.Verdict x) (answer.Verdict y) → x ≡ y
  same_verdict x y is = cc

module _ {K V : Type 0} (levels : K → Need) (top : ℕ) (own : Model) (means : V → own.Carrier) (c : Call K) (before after : Page K) where
  abbrev Stepped : Answer K V → Type 0
  Stepped a = Step levels top own means c before a after

  -- what the answer of a call tells, once the call is known and carried out
  answered : (c' : Call K) → c ≡ c' → (a : Answer K V) → (a ≡ answer.Elsewhere → ⊥) → ((e : Refusal) → a ≡ answer.Refused e → ⊥) → Stepped a → Answers levels top own means before.standing c' a
  answered c' call a taken carried (elsewhere side is same) = absurd (taken is)
  answered c' call a taken carried (refused side e cause told is same) = absurd (carried e is)
  answered c' call a taken carried (accepted side none answers is) = subst (λ c. Answers levels top own means before.standing c a) call answers

  pub bracket_told : (told : ℕ × ℕ) (s : Standing K) (r : ℕ) → AsksBracket levels top own means c before.standing s r → Stepped (answer.Bracket told) → told ≡ pair (road_ends levels top s r)
  bracket_told told s r (inl (call, own-standing)) step =
      same_pair _ _ (answered (Bracket r) call (answer.Bracket told) (λ is. never (cc)) (λ e is. never (cc)) step) ∙ ap (λ s. pair (road_ends levels top s r)) (sym own-standing)
  bracket_told told s r (inr (i, what, call, altered)) step =
      same_pair _ _ (answered (Try i what r) call (answer.Bracket told) (λ is. never (cc)) (λ e is. never (cc)) step) ∙ ap (λ s. pair (road_ends levels top s r)) (sym altered)

  pub verdict_told : (told : Verdict) (r t : ℕ) → c ≡ Judge r t → Stepped (answer.Verdict told) → told ≡ verdict (road_ends levels top before.standing r) t
  verdict_told told r t call step = same_verdict _ _ (answered (Judge r t) call (answer.Verdict told) (λ is. never (cc)) (λ e is. never (cc)) step)

  -- what holds of the standing before a call, and of that which the call leaves when it is accepted
  module _ (P : Standing K → Type 0) (here : P before.standing) (a : Answer K V) where
    pub after_call : (c' : Call K) → c ≡ c' → (Accepted (causes_at levels top own means before c') → P (turned top c' before).standing) → Stepped a → P after.standing
    after_call c' call there (elsewhere side is same) = subst (λ b. P b.standing) (sym same) here
    after_call c' call there (refused side e cause told is same) = subst (λ b. P b.standing) (sym same) here
    after_call c' call there (accepted side none answers is) =
        subst (λ b. P b.standing) (sym is) (subst (λ c. Accepted (causes_at levels top own means before c) → P (turned top c before).standing) (sym call) there none)

    pub after_set : (i : ℕ) (row : List ℕ) → Sets levels top own means c i row → (Falling top row → P (weighted top i row before.standing)) → Stepped a → P after.standing
    after_set i row (inl call) there = after_call (Set i row) call (λ none. there (falls top row none.1.0))
    after_set i row (inr (readings, call, is)) there =
        after_call (SetByReadings i readings) call
        (λ none. subst (λ row. Falling top row → P (weighted top i row before.standing)) is there (falls top (map sixty_fourths readings) none.1.1.0))
