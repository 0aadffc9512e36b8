-- Every page of a kept book has what a sheet's type keeps of its standing: by the causes that are not there. Assumes nothing.
use Rattle.std.proofs.Common.{ℕ, zero, suc, ◌<◌, ◌≤◌, List, [], ◌∷◌, map, length, take, drop, sym, refl, subst, inr, arith, length-append, length-drop, length-take}
use lib.ListN.{length-map}
use Rattle.needs.specs.Levels.{Need}
use Rattle.weights.proofs.Falling.{blank_falling}
use Rattle.readings.specs.Readings.{sixty_fourths}
use Rattle.algebras.specs.Model.{Model}
use Rattle.inclusion_exclusion.specs.Changes.{one_more, one_less}
use Rattle.sheets.specs.Standings.{opened}
use Rattle.sheets.specs.Causes.{Accepted}
use Rattle.calls.specs.declared.call.Call.{Call}
use Rattle.calls.specs.declared.call.Call.TheVariants.{Size, Set, SetByReadings, Fit, Strike, PutOut, Find, Total, Bracket, Judge, Try, CallIn}
use Rattle.calls.specs.declared.answer.Answer.{Answer}
use Rattle.calls.specs.Book.{Page, turned, causes_at}
use Rattle.calls.specs.Law.{Kept}
use Rattle.calls.proofs.Places.{in_place}
use Rattle.calls.proofs.Steps.{falls, after_call}
use Rattle.calls.proofs.Lawful.{SoundStanding, weighted_sound}

module _ {K V : Type 0} (levels : K → Need) (top : ℕ) (own : Model) (means : V → own.Carrier) where
  accepted_sound : (c : Call K) (b : Page K) → SoundStanding b.standing → Accepted (causes_at levels top own means b c) → SoundStanding (turned top c b).standing
  accepted_sound (Size n) b sound none =
      let not-over : 8 < n → ⊥ = λ over. none.0 (inr over) in
      let within : n ≤ 8 = omega arith in
      record { few = sound.few; known = within; falling = λ i. blank_falling i 3 }
  accepted_sound (Set i row) b sound none = weighted_sound top b.standing i row (falls top row none.1.0) sound
  accepted_sound (SetByReadings i readings) b sound none = weighted_sound top b.standing i (map sixty_fourths readings) (falls top (map sixty_fourths readings) none.1.1.0) sound
  accepted_sound (Fit d) b sound none =
      let ds = b.standing.needs in
      let room : length (one_more ds d) ≤ 12 = omega (arith, none.1.1.1.0, length-append ds (d ∷ []), length-map ds levels) in
      record { few = room; known = sound.known; falling = sound.falling }
  accepted_sound (Strike p) b sound none =
      let ds = b.standing.needs in
      let fewer : length (one_less ds p) ≤ 12 = omega (arith, sound.few, length-append (take p ds) (drop (suc p) ds), length-take p ds, length-drop (suc p) ds) in
      record { few = fewer; known = sound.known; falling = sound.falling }
  accepted_sound PutOut b sound none = sound
  accepted_sound (Find d) b sound none = sound
  accepted_sound (Total algebra r) b sound none = sound
  accepted_sound (Bracket r) b sound none = sound
  accepted_sound (Judge r t) b sound none = sound
  accepted_sound (Try i what r) b sound none = sound
  accepted_sound CallIn b sound none = sound

  pub kept_sound : (places : List K) (calls : List (Call K)) (answers : List (Answer K V)) (book : ℕ → Page K) → Kept levels top own means places calls answers book
      → (p : ℕ) → p ≤ length calls → SoundStanding (book p).standing
  kept_sound places calls answers book kept zero within =
      let first : SoundStanding (opened {K = K}) = record { few = omega arith; known = omega arith; falling = λ i. blank_falling i 3 } in
      subst (λ b. SoundStanding b.standing) (sym kept.opens) first
  kept_sound places calls answers book kept (suc p) within =
      let call = in_place calls p PutOut (omega arith) in
      let turn = kept.turns p call.0 call.1 in
      let before = kept_sound places calls answers book kept p (omega arith) in
      after_call levels top own means call.0 (book p) (book (suc p)) SoundStanding before turn.0 call.0 refl (accepted_sound call.0 (book p) before) turn.1
