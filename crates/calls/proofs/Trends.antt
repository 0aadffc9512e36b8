-- Where the reliability goes over one call, and over all places between two of a list. Assumes nothing.
use Rattle.std.proofs.Common.{◌≡◌, ℕ, zero, suc, ◌<◌, ◌⊎◌, List, [], get_or, ℤ, ◌≤ℤ◌, sym, ap, ◌∙◌, inl, inr, arith}
use Rattle.std.proofs.lemmas.Int.{ints}
use Rattle.std.proofs.lemmas.Bool.{cases_lt}
use Rattle.needs.specs.Levels.{Need}
use Rattle.weights.specs.Chances.{Falling}
use Rattle.algebras.specs.Model.{Model}
use Rattle.inclusion_exclusion.specs.Reliability.{Proper}
use Rattle.inclusion_exclusion.specs.Changes.{Raises, Lowers, Follows}
use Rattle.inclusion_exclusion.proofs.Monotonicity.{sets_follow_weights}
use Rattle.sheets.specs.Standings.{Standing, weighted}
use Rattle.sheets.specs.Answers.{setting_of, needs_of, reliability_of}
use Rattle.calls.specs.declared.call.Call.{Call}
use Rattle.calls.specs.declared.call.Call.TheVariants.{Fit, Strike}
use Rattle.sheets.proofs.Reliable.{fit_raises, strike_lowers}
use Rattle.calls.specs.declared.answer.Answer.{Answer}
use Rattle.calls.specs.Book.{Page, turned, Step}
use Rattle.calls.specs.Law.{Sets, FitOrRaise, StrikeOrLower}
use Rattle.calls.proofs.Steps.{after_call, after_set}

-- over all places between p and q, whichever way `◌≼◌` goes; over p itself nothing changes
module _ (◌≼◌ : ℤ → ℤ → Type 0) (same : (x y : ℤ) → x ≡ y → x ≼ y) (on : (x y z : ℤ) → x ≼ y → y ≼ z → x ≼ z) (f : ℕ → ℤ) (p : ℕ) (first : f (suc p) ≡ f p) where
  infix 50 ◌≼◌
  pub along : (q : ℕ) → ((k : ℕ) → p < k → k < q → f k ≼ f (suc k)) → p < q → f p ≼ f q
  along zero next before = absurd (omega arith)
  along (suc q) next before = elim (cases_lt p q) [
    | inl between ↦ on _ _ _ (along q (λ k after under. next k after (omega arith)) between) (next q between (omega arith))
    | inr last ↦ same _ _ (sym first ∙ ap (λ k. f (suc k)) {x = p} {y = q} (omega arith))
  ]

module _ {K V : Type 0} (levels : K → Need) (top : ℕ) (own : Model) (means : V → own.Carrier) (c : Call K) (before after : Page K) (a : Answer K V) where
  abbrev held : Standing K
  held = before.standing

  abbrev Stepped : Type 0
  Stepped = Step levels top own means c before a after

  -- over a call of one sort, or a set that moves the weights one way
  after_change : (P : Standing K → Type 0) → P held → {X : Type 0} (sort : X → Call K) (Moves : List ℕ → List ℕ → Type 0)
      → ((x : X) → P (turned top (sort x) before).standing) → ((i : ℕ) (row : List ℕ) → Falling top row → Moves (get_or held.card i []) row → P (weighted top i row held))
      → ((x : X) × (c ≡ sort x)) ⊎ ((i : ℕ) × (row : List ℕ) × Sets levels top own means c i row × Moves (get_or held.card i []) row)
      → Stepped → P after.standing
  after_change P here sort Moves there moved (inl (x, call)) = after_call levels top own means c before after P here a (sort x) call (λ none. there x)
  after_change P here sort Moves there moved (inr (i, row, sets, moves)) = after_set levels top own means c before after P here a i row sets (λ falling. moved i row falling moves)

  module _ (proper : Proper (setting_of levels top held)) where
    follows : (i : ℕ) (row : List ℕ) → Falling top row → Follows (setting_of levels top held) i row (needs_of levels top held)
    follows i row = sets_follow_weights (setting_of levels top held) i row (needs_of levels top held) proper

    pub rises : FitOrRaise levels top own means c held → Stepped → reliability_of levels top held ≤ℤ reliability_of levels top after.standing
    rises =
        after_change (λ s. reliability_of levels top held ≤ℤ reliability_of levels top s) (omega (arith, ints)) Fit (Raises top)
        (λ d. fit_raises levels top held d proper) (λ i row falling. (follows i row falling).raised)

    pub sinks : StrikeOrLower levels top own means c held → Stepped → reliability_of levels top after.standing ≤ℤ reliability_of levels top held
    sinks =
        after_change (λ s. reliability_of levels top s ≤ℤ reliability_of levels top held) (omega (arith, ints)) Strike (Lowers top)
        (λ p. strike_lowers levels top held p proper) (λ i row falling. (follows i row falling).lowered)
