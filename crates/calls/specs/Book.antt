-- The book of a sheet, kept from the calls that it is sent and from nothing else.
--
-- side       where the sheet stands: in the bay or on the road
-- page       the side, the standing and what the lent places hold, before a call
-- taken in   the one side that takes a call
-- turned     the page after a call that is accepted
-- answers    what a call that is accepted answers, by the standing before it
-- step       one call by the book: passed over on the other side, else refused by the table of causes, else carried out
use Rattle.std.specs.Prelude.{◌≡◌, ℕ, List, map, length, Option, ◌≢◌, slice_index_or, slice_set}
use Rattle.needs.specs.Levels.{Need}
use Rattle.readings.specs.Readings.{sixty_fourths}
use Rattle.algebras.specs.Model.{Model}
use Rattle.algebras.specs.Models.{fixed_model, polynomial_model, count_model}
use Rattle.algebras.specs.Meanings.{meaning, coefficients}
use Rattle.algebras.specs.declared.residue.Residue.{Residue}
use Rattle.algebras.specs.declared.polynomial.Coefficients.{Coefficients}
use Rattle.brackets.specs.Brackets.{pair, verdict}
use Rattle.sheets.specs.Standings.{Standing, capacity, sized, weighted, fitted, struck, struck_storage}
use Rattle.sheets.specs.Causes.{causes, Accepted, First, ToldPlace, Call as TableCall}
use Rattle.sheets.specs.Causes.Call.{size, set, set_by_readings, fit, strike, put_out, find, total, bracket, judge, try_with, call_in}
use Rattle.sheets.specs.Refusals.{number, place}
use Rattle.sheets.specs.Answers.{road_total, road_counted, road_ends, Found}
use Rattle.sheets.specs.Tries.{tried}
use Rattle.sheets.specs.declared.refusal.Refusal.{Refusal}
use Rattle.calls.specs.declared.call.AlgebraName.{AlgebraName}
use Rattle.calls.specs.declared.call.AlgebraName.TheVariants.{Fixed, Polynomial, Count, Own}
use Rattle.calls.specs.declared.call.Call.{Call}
use Rattle.calls.specs.declared.call.Call.TheVariants.{Size, Set, SetByReadings, Fit, Strike, PutOut, Find, Total, Bracket, Judge, Try, CallIn}
use Rattle.calls.specs.declared.answer.Answer.{Answer}
use Rattle.calls.specs.declared.answer.Answer.TheVariants as answer

pub data Side : Type 0 where
  bay road : Side

pub record Page (K : Type 0) : Type 0 where
  pub side : Side
  pub standing : Standing K
  pub storage : List K

abbrev pub page : {K : Type 0} → Side → Standing K → List K → Page K
page side s storage = record { side = side; standing = s; storage = storage }

abbrev pub taken_in : {K : Type 0} → Call K → Side
taken_in (Size n) = bay
taken_in (Set i row) = bay
taken_in (SetByReadings i readings) = bay
taken_in (Fit d) = bay
taken_in (Strike p) = bay
taken_in PutOut = bay
taken_in (Find d) = road
taken_in (Total algebra r) = road
taken_in (Bracket r) = road
taken_in (Judge r t) = road
taken_in (Try i what r) = road
taken_in CallIn = road

-- the call as the table of causes has it
abbrev pub asked : {K : Type 0} → Call K → TableCall K
asked (Size n) = size n
asked (Set i row) = set i row
asked (SetByReadings i readings) = set_by_readings i readings
asked (Fit d) = fit d
asked (Strike p) = strike p
asked PutOut = put_out
asked (Find d) = find d
asked (Total algebra r) = total r
asked (Bracket r) = bracket r
asked (Judge r t) = judge r t
asked (Try i what r) = try_with i what r
asked CallIn = call_in

abbrev pub turned : {K : Type 0} → (top : ℕ) → Call K → Page K → Page K
turned top (Size n) b = page bay (sized n b.standing) b.storage
turned top (Set i row) b = page bay (weighted top i row b.standing) b.storage
turned top (SetByReadings i readings) b = page bay (weighted top i (map sixty_fourths readings) b.standing) b.storage
turned top (Fit d) b = page bay (fitted d b.standing) (slice_set b.storage (length b.standing.needs) d)
turned top (Strike p) b = page bay (struck p b.standing) (struck_storage (length b.standing.needs) p b.storage)
turned top PutOut b = page road b.standing b.storage
turned top (Find d) b = b
turned top (Total algebra r) b = b
turned top (Bracket r) b = b
turned top (Judge r t) b = b
turned top (Try i what r) b = b
turned top CallIn b = page bay b.standing b.storage

module _ {K V : Type 0} (levels : K → Need) (top : ℕ) (own : Model) (means : V → own.Carrier) where
  -- a total is the sum over choices, and so the sum over states
  abbrev pub Totals : (m : Model) → Standing K → (depth : ℕ) → m.Carrier → Type 0
  Totals m s r x = (x ≡ road_total levels top s m r) × (x ≡ road_counted levels top s m r)

  abbrev pub Totalled : AlgebraName → Standing K → (depth : ℕ) → Answer K V → Type 0
  Totalled Fixed s r a = (x : Residue) × (a ≡ answer.Fixed x) × Totals fixed_model s r (meaning x)
  Totalled Polynomial s r a = (x : Coefficients) × (a ≡ answer.Polynomial x) × Totals polynomial_model s r (coefficients x)
  Totalled Count s r a = (x : Residue) × (a ≡ answer.Count x) × Totals count_model s r (meaning x)
  Totalled Own s r a = (x : V) × (a ≡ answer.Own x) × Totals own s r (means x)

  abbrev pub Answers : Standing K → Call K → Answer K V → Type 0
  Answers s (Size n) a = a ≡ answer.Done
  Answers s (Set i row) a = a ≡ answer.Done
  Answers s (SetByReadings i readings) a = a ≡ answer.Done
  Answers s (Fit d) a = a ≡ answer.Place (length s.needs)
  Answers s (Strike p) a = (d : K) × (a ≡ answer.Need d) × (d ≡ slice_index_or s.needs p d)
  Answers s PutOut a = a ≡ answer.Done
  Answers s (Find d) a = (p : Option ℕ) × (a ≡ answer.Found p) × Found levels top s d p
  Answers s (Total algebra r) a = Totalled algebra s r a
  Answers s (Bracket r) a = a ≡ answer.Bracket (pair (road_ends levels top s r))
  Answers s (Judge r t) a = a ≡ answer.Verdict (verdict (road_ends levels top s r) t)
  Answers s (Try i what r) a = a ≡ answer.Bracket (pair (road_ends levels top (tried top i what s) r))
  Answers s CallIn a = a ≡ answer.Done

  abbrev pub causes_at : Page K → Call K → List (ℕ × Type 0)
  causes_at b c = causes levels top (capacity b.storage) b.standing (asked c)

  -- the place that a refused fit tells, if it tells one
  abbrev pub Told : Call K → Standing K → Refusal → Type 0
  Told c s e = (d : K) → c ≡ Fit d → ToldPlace (map levels s.needs) (levels d) (place e)

  pub data Step (c : Call K) (before : Page K) (a : Answer K V) (after : Page K) : Type 0 where
    elsewhere : (taken_in c ≢ before.side) → a ≡ answer.Elsewhere → after ≡ before → Step c before a after
    refused : taken_in c ≡ before.side → (e : Refusal) → First (causes_at before c) (number e) → Told c before.standing e → a ≡ answer.Refused e → after ≡ before → Step c before a after
    accepted : taken_in c ≡ before.side → Accepted (causes_at before c) → Answers before.standing c a → after ≡ turned top c before → Step c before a after
