-- The law over every list of calls, from the book and from what a sheet's type keeps of its standing. Assumes nothing.
use Rattle.std.proofs.Common.{◌≡◌, ℕ, suc, ◌<◌, ◌≤◌, List, [], length, get_or, replicate, ℤ, ◌≤ℤ◌, sym, refl, ap, subst, inl, inr, arith}
use lib.ListN.{length-map}
use Rattle.std.proofs.lemmas.Int.{ints}
use Rattle.needs.specs.Levels.{Need}
use Rattle.weights.specs.Chances.{Falling, trimmed}
use Rattle.weights.proofs.Falling.{trimmed_falling, set_falling}
use Rattle.algebras.specs.Model.{Model}
use Rattle.inclusion_exclusion.specs.Reliability.{Proper, Bounded}
use Rattle.inclusion_exclusion.specs.Bonferroni.{Inside}
use Rattle.inclusion_exclusion.specs.Bonferroni as bonferroni
use Rattle.inclusion_exclusion.proofs.Bonferroni.{bracketed, judged}
use Rattle.brackets.specs.Brackets.{pair, verdict, Tells}
use Rattle.brackets.specs.declared.verdict.Verdict.{Verdict}
use Rattle.brackets.specs.declared.verdict.Verdict.TheVariants.{Sound, Attention}
use Rattle.brackets.proofs.Told.{pair_holds, deeper_inside, verdict_tells, verdict_decides}
use Rattle.sheets.specs.Standings.{Standing, weighted}
use Rattle.sheets.specs.Answers.{setting_of, needs_of, road_ends, reliability_of}
use Rattle.sheets.specs.Tries.{weight_of}
use Rattle.calls.specs.declared.call.Call.{Call}
use Rattle.calls.specs.declared.call.Call.TheVariants.{Judge}
use Rattle.sheets.proofs.Reliable.{proper, bounded}
use Rattle.sheets.proofs.Measured.{alike_falls}
use Rattle.calls.specs.declared.answer.Answer.{Answer}
use Rattle.calls.specs.declared.answer.Answer.TheVariants as answer
use Rattle.calls.specs.Book.{Page, Step}
use Rattle.calls.specs.Law.{StandsIn, AsksBracket, FitOrRaise, StrikeOrLower, Kept, Bracketed, Judged, Only, Lawful}
use Rattle.calls.proofs.Places.{one_in_place, in_place}
use Rattle.calls.proofs.Steps.{bracket_told, verdict_told, after_call}
use Rattle.calls.proofs.Trends.{along, rises, sinks}

-- what a sheet's type keeps of its standing
pub record SoundStanding {K : Type 0} (s : Standing K) : Type 0 where
  pub few : length s.needs ≤ 12
  pub known : s.components ≤ 8
  pub falling : (i : ℕ) → Falling 3 (get_or s.card i [])

pub weighted_sound : {K : Type 0} (top : ℕ) (s : Standing K) (i : ℕ) (row : List ℕ) → Falling top row → SoundStanding s → SoundStanding (weighted top i row s)
weighted_sound top s i row falls sound = record { few = sound.few; known = sound.known; falling = set_falling s.card i (trimmed top row) 3 sound.falling (trimmed_falling top row falls 3) }

module _ {K V : Type 0} (levels : K → Need) (top : ℕ) (own : Model) (means : V → own.Carrier) (low : top ≤ 3) (most : (d : K) (i : ℕ) → levels d i ≤ top) where
  asked_sound : (c : Call K) (held s : Standing K) (r : ℕ) → AsksBracket levels top own means c held s r → SoundStanding held → SoundStanding s
  asked_sound c held s r (inl (call, own-standing)) sound = subst SoundStanding (sym own-standing) sound
  asked_sound c held s r (inr (i, what, call, altered)) sound = subst SoundStanding (sym altered) (weighted_sound top held i (replicate 3 (weight_of what)) (alike_falls top what low) sound)

  sound_bounded : (s : Standing K) → SoundStanding s → Bounded (setting_of levels top s) (needs_of levels top s)
  sound_bounded s sound = bounded levels top low most s sound.few sound.known sound.falling

  module _ (places : List K) (calls : List (Call K)) (answers : List (Answer K V)) (book : ℕ → Page K)
      (kept : Kept levels top own means places calls answers book) (sound : (p : ℕ) → p ≤ length calls → SoundStanding (book p).standing) where
    abbrev e : ℕ → ℤ
    e p = reliability_of levels top (book p).standing

    abbrev BracketedAt : ℕ → Standing K → (depth : ℕ) → ℕ × ℕ → Type 0
    BracketedAt = Bracketed levels top own means places calls answers book

    abbrev JudgedAt : ℕ → (depth threshold : ℕ) → Verdict → Type 0
    JudgedAt = Judged levels top own means places calls answers book

    -- the step of a call whose answer is kept
    step : (p : ℕ) (c : Call K) (a : Answer K V) → StandsIn calls p c → StandsIn answers p a → Step levels top own means c (book p) a (book (suc p))
    step p c a called answered =
        let turn = kept.turns p c called in
        subst (λ a. Step levels top own means c (book p) a (book (suc p))) (one_in_place answers p turn.0 a (turn.2 answered.0) answered) turn.1

    pair_is : (p : ℕ) (s : Standing K) (r : ℕ) (told : ℕ × ℕ) → BracketedAt p s r told → told ≡ pair (road_ends levels top s r)
    pair_is p s r told (c, called, asks, answered) = bracket_told levels top own means c (book p) (book (suc p)) told s r asks (step p c (answer.Bracket told) called answered)

    around : (p : ℕ) (s : Standing K) (r : ℕ) (told : ℕ × ℕ) → BracketedAt p s r told → bonferroni.Bracketed (setting_of levels top s) (needs_of levels top s)
    around p s r told (c, called, asks, answered) = bracketed _ _ (sound_bounded s (asked_sound c (book p).standing s r asks (sound p (omega arith))))

    verdict_is : (p r t : ℕ) (told : Verdict) → JudgedAt p r t told → told ≡ verdict (road_ends levels top (book p).standing r) t
    verdict_is p r t told (called, answered) = verdict_told levels top own means (Judge r t) (book p) (book (suc p)) told r t refl (step p (Judge r t) (answer.Verdict told) called answered)

    weighed : (p : ℕ) → p ≤ length calls → bonferroni.Judged (setting_of levels top (book p).standing) (needs_of levels top (book p).standing)
    weighed p within = judged _ _ (sound_bounded (book p).standing (sound p within))

    tells : (p r t : ℕ) (told : Verdict) → JudgedAt p r t told → Tells (e p) t told
    tells p r t told spoken = verdict_tells _ _ (weighed p (omega arith)) r t told (verdict_is p r t told spoken)

    -- between two judgements nothing but calls that move the reliability one way
    module _ (◌≼◌ : ℤ → ℤ → Type 0) (same : (x y : ℤ) → x ≡ y → x ≼ y) (on : (x y z : ℤ) → x ≼ y → y ≼ z → x ≼ z) (So : Call K → Standing K → Type 0)
        (moves : (c : Call K) (before after : Page K) (a : Answer K V) → Proper (setting_of levels top before.standing) → So c before.standing
        → Step levels top own means c before a after → reliability_of levels top before.standing ≼ reliability_of levels top after.standing) where
      infix 50 ◌≼◌
      between : (p q r r' t t' : ℕ) (told told' : Verdict) → p < q → JudgedAt p r t told → Only levels top own means places calls answers book So p q → JudgedAt q r' t' told' → e p ≼ e q
      between p q r r' t t' told told' before here only there = along ◌≼◌ same on e p first q next before where
        -- a judgement leaves the standing
        first : e (suc p) ≡ e p
        first = after_call levels top own means (Judge r t) (book p) (book (suc p)) (λ s. reliability_of levels top s ≡ e p) refl (answer.Verdict told) (Judge r t) refl (λ none. refl)
            (step p (Judge r t) (answer.Verdict told) here.0 here.1)

        next : (k : ℕ) → p < k → k < q → e k ≼ e (suc k)
        next k after under =
            let call = in_place calls k (Judge r t) (omega arith) in
            let turn = kept.turns k call.0 call.1 in
            let held = sound k (omega arith) in
            elim (only k call.0 after under call.1) [
              | inl stays ↦ same _ _ (ap (reliability_of levels top) (sym stays))
              | inr so ↦ moves call.0 (book k) (book (suc k)) turn.0 (proper levels top (book k).standing low held.known held.falling) so turn.1
            ]

    pub lawful : Lawful levels top own means places calls answers book
    lawful = record {
      brackets_hold = λ p s r told asked. let is = pair_is p s r told asked in (is, pair_holds _ _ (around p s r told asked) r told is);
      deeper_inside = λ p q s r r' told told' asked asked' deeper.
          subst (λ deep. Inside deep told) (sym (pair_is q s r' told' asked')) (deeper_inside _ _ (around p s r told asked) r told (pair_is p s r told asked) r' deeper);
      verdicts_tell = λ p r t told spoken. (verdict_is p r t told spoken, tells p r t told spoken);
      full_depth_decides = λ p r t told spoken full.
          verdict_decides _ _ (weighed p (omega arith)) r t told (verdict_is p r t told spoken) (omega (arith, length-map (book p).standing.needs levels));
      stays_sound = λ p q r r' t t' before here only less there.
          let up = between (λ x y. x ≤ℤ y) (λ x y is. omega (arith, ints)) (λ x y z a b. omega (arith, ints)) (FitOrRaise levels top own means) (rises levels top own means)
          p q r r' t t' Sound Attention before here only there in
          omega (arith, ints, tells p r t Sound here, tells q r' t' Attention there);
      stays_attention = λ p q r r' t t' before here only more there.
          let down = between (λ x y. y ≤ℤ x) (λ x y is. omega (arith, ints)) (λ x y z a b. omega (arith, ints)) (StrikeOrLower levels top own means) (sinks levels top own means)
          p q r r' t t' Attention Sound before here only there in
          omega (arith, ints, tells p r t Attention here, tells q r' t' Sound there);
    }
