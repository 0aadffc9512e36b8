-- What the clauses say, read from the code's own types and from the ghost members of its bounds.
--
-- page of      the page that a sheet makes
-- answer of    the answer that an outcome makes
-- step, totals, law and one book of    what the book and the law say of a kind and an algebra
use Rattle.std.specs.Prelude.{ℕ, List, Ok, Err, Result}
use Rattle.needs.specs.declared.Kind.{Ghosts as KindGhosts}
use Rattle.algebras.specs.declared.Algebra.{Ghosts as AlgebraGhosts}
use Rattle.sheets.specs.Standings.{Standing}
use Rattle.sheets.specs.Sheets.{bay_standing, bay_storage, road_standing, road_storage}
use Rattle.sheets.specs.declared.bay.BaySheet.{BaySheet}
use Rattle.sheets.specs.declared.refusal.Refusal.{Refusal}
use Rattle.sheets.specs.declared.road.RoadSheet.{RoadSheet}
use Rattle.calls.specs.declared.answer.Answer.{Answer}
use Rattle.calls.specs.declared.answer.Answer.TheVariants.{Refused}
use Rattle.calls.specs.declared.call.Call.{Call}
use Rattle.calls.specs.declared.sheet.Sheet.{Sheet}
use Rattle.calls.specs.declared.sheet.Sheet.TheVariants.{Bay, Road}
use Rattle.calls.specs.Book.{Page, page, bay, road, Step, Totals}
use Rattle.calls.specs.Law.{Law, OneBook}

module _ {K : Type 0} {kind : KindGhosts K} where
  abbrev pub bay_page : BaySheet K kind → Page K
  bay_page s = page bay (bay_standing s) (bay_storage s)

  abbrev pub road_page : RoadSheet K kind → Page K
  road_page s = page road (road_standing s) (road_storage s)

  abbrev pub page_of : Sheet K kind → Page K
  page_of (Bay s) = bay_page s
  page_of (Road s) = road_page s

abbrev pub answer_of : {K V : Type 0} → Result (Answer K V) Refusal → Answer K V
answer_of (Ok a) = a
answer_of (Err e) = Refused e

module _ {K A V : Type 0} (kind : KindGhosts K) (own : AlgebraGhosts A V) where
  abbrev pub StepOf : Call K → (before : Page K) → Answer K V → (after : Page K) → Type 0
  StepOf = Step kind.levels kind.TOP own.model own.means

  abbrev pub TotalsOf : Standing K → (depth : ℕ) → V → Type 0
  TotalsOf s r x = Totals kind.levels kind.TOP own.model own.means own.model s r (own.means x)

  abbrev pub LawOf : (places : List K) → List (Call K) → (before answers : List (Answer K V)) → Standing K → (storage : List K) → Type 0
  LawOf = Law kind.levels kind.TOP own.model own.means

  abbrev pub OneBookOf : Type 0
  OneBookOf = OneBook kind.levels kind.TOP own.model own.means
