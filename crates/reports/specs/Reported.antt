-- What the report on a file says: the report's lines where the file is read, else the line of its fault.
--
-- longest    a report takes files of at most 4096 bytes; a longer one is refused unread
-- kind       a file whose byte 2 is 2 is read as graded, any other as plain
use Rattle.std.specs.Prelude.{◌≡◌, ℕ, ◌<◌, ◌≤◌, List, ◌++◌, length, replicate, codes, ◌≢◌, slice_index}
use Rattle.needs.specs.Levels.{digit}
use Rattle.sheets.specs.Standings.{Standing}
use Rattle.sheets.specs.Refusals.{number}
use Rattle.sheet_file.specs.Layout.{Form, form, big_endian}
use Rattle.sheet_file.specs.Texts.{fault_text}
use Rattle.sheet_file.specs.Faults.{Read, Faulty}
use Rattle.sheet_file.specs.declared.fault.Fault.{Fault}
use Rattle.reports.specs.Lines.{newline, report_text}

abbrev pub fault_line : (number «record» byte : ℕ) → List ℕ
fault_line n r b = fault_text n r b ++ newline

pub data ReportedAs {K : Type 0} (f : Form K) (kind : List ℕ) (storage : List K) (input text : List ℕ) : Type 0 where
  whole : (t : ℕ) (s : Standing K) (places : List K) → Read f storage input t s places → text ≡ report_text f.levels f.top s kind t → ReportedAs f kind storage input text
  faulty : (e : Fault) (places : List K) → Faulty f storage input e places → text ≡ fault_line (number e.refusal) e.record e.byte → ReportedAs f kind storage input text

abbrev pub plain : Form ℕ
plain = form 1 1 2 big_endian (digit 2)

abbrev pub graded : Form ℕ
graded = form 2 3 4 big_endian (digit 4)

pub data Reported (input text : List ℕ) : Type 0 where
  too_long : 4096 < length input → text ≡ fault_line 14 0 4096 → Reported input text
  as_plain : length input ≤ 4096 → (slice_index input 2 ≢ 2) → ReportedAs plain (codes "plain") (replicate 12 0) input text → Reported input text
  as_graded : length input ≤ 4096 → slice_index input 2 ≡ 2 → ReportedAs graded (codes "graded") (replicate 12 0) input text → Reported input text
