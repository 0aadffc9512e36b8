-- The law over every list of calls, by the book's page before each place of the list.
--
-- stands in      what is in a place of a list
-- kept           a book that opens as the sheet does and goes on by one step for each call
-- bracketed      a place of the list where a bracket or a try was answered: the standing that it is about, altered for a try, and the depth
-- judged         a place where a verdict was answered
-- only           between two places no call changes the standing but calls of one sort
-- lawful         what a list's brackets and verdicts say of the standings that the book has there
use Rattle.std.specs.Prelude.{◌≡◌, ℕ, suc, ◌<◌, ◌≤◌, ◌⊎◌, List, [], map, length, drop, slice_index_or, Float}
use Rattle.needs.specs.Levels.{Need}
use Rattle.readings.specs.Readings.{sixty_fourths}
use Rattle.algebras.specs.Model.{Model}
use Rattle.inclusion_exclusion.specs.Changes.{Raises, Lowers}
use Rattle.inclusion_exclusion.specs.Bonferroni.{Holds, Inside}
use Rattle.brackets.specs.Brackets.{pair, verdict, Tells, Decided}
use Rattle.brackets.specs.declared.verdict.Verdict.{Verdict}
use Rattle.brackets.specs.declared.verdict.Verdict.TheVariants.{Sound, Attention}
use Rattle.sheets.specs.Standings.{Standing, opened}
use Rattle.sheets.specs.Answers.{road_ends, reliability_of}
use Rattle.sheets.specs.Tries.{tried}
use Rattle.sheets.specs.declared.supposed.Supposed.{Supposed}
use Rattle.calls.specs.declared.call.Call.{Call}
use Rattle.calls.specs.declared.call.Call.TheVariants.{Set, SetByReadings, Fit, Strike, Bracket, Judge, Try}
use Rattle.calls.specs.declared.answer.Answer.{Answer}
use Rattle.calls.specs.declared.answer.Answer.TheVariants as answer
use Rattle.calls.specs.Book.{Page, page, bay, Step}

-- x is in place p
abbrev pub StandsIn : {X : Type 0} → List X → ℕ → X → Type 0
StandsIn xs p x = (p < length xs) × (slice_index_or xs p x ≡ x)

module _ {K V : Type 0} (levels : K → Need) (top : ℕ) (own : Model) (means : V → own.Carrier) where
  -- the call asks for the bracket of a standing at a depth: of the sheet's own, or of that with one component dead or sure
  abbrev pub AsksBracket : Call K → (held asked : Standing K) → (depth : ℕ) → Type 0
  AsksBracket c s s' r = ((c ≡ Bracket r) × (s' ≡ s)) ⊎ ((i : ℕ) × (what : Supposed) × (c ≡ Try i what r) × (s' ≡ tried top i what s))

  -- the call sets the weights of a component to a row
  abbrev pub Sets : Call K → (component : ℕ) → List ℕ → Type 0
  Sets c i row = (c ≡ Set i row) ⊎ ((readings : List Float) × (c ≡ SetByReadings i readings) × (row ≡ map sixty_fourths readings))

  abbrev pub FitOrRaise : Call K → Standing K → Type 0
  FitOrRaise c s = ((d : K) × (c ≡ Fit d)) ⊎ ((i : ℕ) × (row : List ℕ) × Sets c i row × Raises top (slice_index_or s.card i []) row)

  abbrev pub StrikeOrLower : Call K → Standing K → Type 0
  StrikeOrLower c s = ((p : ℕ) × (c ≡ Strike p)) ⊎ ((i : ℕ) × (row : List ℕ) × Sets c i row × Lowers top (slice_index_or s.card i []) row)

  module _ (places : List K) (calls : List (Call K)) (answers : List (Answer K V)) where
    -- the pages before places 0, 1, 2 and on of the list, and the one after the last call
    pub record Kept (book : ℕ → Page K) : Type 0 where
      pub opens : book 0 ≡ page bay opened places
      pub turns : (p : ℕ) (c : Call K) → StandsIn calls p c → (a : Answer K V) × Step levels top own means c (book p) a (book (suc p)) × (p < length answers → StandsIn answers p a)

    module _ (book : ℕ → Page K) where
      abbrev pub Bracketed : ℕ → Standing K → (depth : ℕ) → ℕ × ℕ → Type 0
      Bracketed p s r told = (c : Call K) × StandsIn calls p c × AsksBracket c (book p).standing s r × StandsIn answers p (answer.Bracket told)

      abbrev pub Judged : ℕ → (depth threshold : ℕ) → Verdict → Type 0
      Judged p r t told = StandsIn calls p (Judge r t) × StandsIn answers p (answer.Verdict told)

      abbrev pub Only : (Call K → Standing K → Type 0) → (from to : ℕ) → Type 0
      Only So p q = (k : ℕ) (c : Call K) → p < k → k < q → StandsIn calls k c → ((book (suc k)).standing ≡ (book k).standing) ⊎ So c (book k).standing

      pub record Lawful : Type 0 where
        pub brackets_hold : (p : ℕ) (s : Standing K) (r : ℕ) (told : ℕ × ℕ) → Bracketed p s r told → (told ≡ pair (road_ends levels top s r)) × Holds told (reliability_of levels top s)
        pub deeper_inside : (p q : ℕ) (s : Standing K) (r r' : ℕ) (told told' : ℕ × ℕ) → Bracketed p s r told → Bracketed q s r' told' → r ≤ r' → Inside told' told
        pub verdicts_tell : (p r t : ℕ) (told : Verdict) → Judged p r t told → (told ≡ verdict (road_ends levels top (book p).standing r) t) × Tells (reliability_of levels top (book p).standing) t told
        pub full_depth_decides : (p r t : ℕ) (told : Verdict) → Judged p r t told → length (book p).standing.needs ≤ r → Decided told
        pub stays_sound : (p q r r' t t' : ℕ) → p < q → Judged p r t Sound → Only FitOrRaise p q → t' ≤ t → Judged q r' t' Attention → ⊥
        pub stays_attention : (p q r r' t t' : ℕ) → p < q → Judged p r t Attention → Only StrikeOrLower p q → t ≤ t' → Judged q r' t' Sound → ⊥

  -- A list of calls on a sheet that is opened on some places: the answers before and after it, and what the sheet then holds.
  pub record Law (places : List K) (calls : List (Call K)) (before answers : List (Answer K V)) (standing : Standing K) (storage : List K) : Type 0 where
    pub book : ℕ → Page K
    pub kept : Kept places calls answers book
    pub stands : standing ≡ (book (length calls)).standing
    pub stores : storage ≡ (book (length calls)).storage
    pub lawful : Lawful places calls answers book
    pub untouched : (length answers ≡ length before) × (drop (length calls) answers ≡ drop (length calls) before)

  -- the calls alone pin the book
  abbrev pub OneBook : Type 0
  OneBook =
      (places : List K) (calls : List (Call K)) (answers answers' : List (Answer K V)) (book book' : ℕ → Page K)
      → Kept places calls answers book → Kept places calls answers' book' → (p : ℕ) → p ≤ length calls → book p ≡ book' p
