-- What holds of a report that is read, and of one that is refused.
use Rattle.std.specs.Prelude.{◌≡◌, ◌≢◌, ℕ, ◌+◌, ◌-◌, ◌==◌, Bool, true, List, [], ◌∷◌, ◌++◌, length, take, All, codes, Option, Some, None, Result, Ok, Err}
use Rattle.std.specs.List.{AllByRecursion, count_by, flat_map}
use Rattle.sdb_model.specs.Plain.{is_counted, is_one_line, IsPlainEvent, IsPlainPoint, IsPlainDump, are_rising, IsPlain}
use Rattle.sdb_model.specs.Report.{report_text_of, table_lines}
use Rattle.sdb_report.specs.Types.{Outcome, Stopped, TableDump}
use Rattle.sdb_report.specs.Reading.{cut_line}
use Rattle.sdb_report.specs.declared.refused.ReportRefused.{ReportRefused}
use Rattle.sdb_report.specs.declared.refused.ReportRefused.TheVariants as refused
use Rattle.sdb_codec.specs.declared.refused.Stopped.TheVariants as stopped
use Rattle.sdb_model.specs.Texts.{with_lf}

abbrev pub is_lf : ℕ → Bool
is_lf b = b == 10

-- the number of the line that begins where so many bytes are left
abbrev pub refusal : List ℕ → Stopped → ReportRefused
refusal bytes (stopped.Wrong left) = refused.BadLine (count_by is_lf (take (length bytes - left) bytes) + 1)
refusal bytes stopped.NoMemory = refused.NoMemory

-- What a function returned is what reading gives, unless memory ran out.
abbrev pub Reads : List ℕ → Result Outcome ReportRefused → Result Outcome ℕ → Type 0
Reads bytes (Ok o) read = read ≡ Ok o
Reads bytes (Err refused.NoMemory) read = Unit {0}
Reads bytes (Err (refused.BadLine n)) read = (left : ℕ) × (read ≡ Err left) × (n ≡ count_by is_lf (take (length bytes - left) bytes) + 1)

-- this outcome is answered, unless memory ran out
abbrev pub Answers : Result Outcome ReportRefused → Outcome → Type 0
Answers (Ok p) o = p ≡ o
Answers (Err refused.NoMemory) o = Unit {0}
Answers (Err (refused.BadLine n)) o = ⊥

---- the first bad line

abbrev pub text_of_lines : List (List ℕ) → List ℕ
text_of_lines lines = flat_map with_lf lines

-- Plain, but for the order of the tables.
pub record IsLoose (o : Outcome) : Type 0 where
  pub events_counted : is_counted o.events
  pub events : All IsPlainEvent o.events
  pub order_counted : is_counted o.order
  pub order : All IsPlainPoint o.order
  pub tables_counted : is_counted o.tables
  pub tables : All IsPlainDump o.tables

-- the rest of a report says all that the report says of these tables
abbrev pub IsHidden : List TableDump → List ℕ → Type 0
IsHidden [] rest = Unit {0}
IsHidden (t ∷ ts) rest = (r : List ℕ) × (rest ≡ r ++ (flat_map table_lines (t ∷ ts) ++ codes "end\n"))

-- The report of some outcome begins with these lines, and the tables that they show rise.
pub record Begins (lines : List (List ℕ)) : Type 0 where
  pub outcome : Outcome
  pub loose : IsLoose outcome
  pub rest : List ℕ
  pub text : report_text_of outcome ≡ text_of_lines lines ++ rest
  pub observed : List TableDump
  pub later : List TableDump
  pub tables : outcome.tables ≡ observed ++ later
  pub rising : are_rising observed ≡ true
  pub hidden : IsHidden later rest

-- No plain outcome's report has the line that comes next, or ends where the text ends.
abbrev pub IsDead : List (List ℕ) → List ℕ → Option (List ℕ × List ℕ) → Type 0
IsDead lines tail None = (o : Outcome) → IsPlain o → report_text_of o ≢ text_of_lines lines ++ tail
IsDead lines tail (Some cut) = (o : Outcome) (rest : List ℕ) → IsPlain o → report_text_of o ≢ text_of_lines (lines ++ cut.0 ∷ []) ++ rest

-- The first line that no report has there.
pub record IsFirstBad (bytes : List ℕ) (n : ℕ) : Type 0 where
  pub lines : List (List ℕ)
  pub tail : List ℕ
  pub split : bytes ≡ text_of_lines lines ++ tail
  pub whole : AllByRecursion (λ line. is_one_line line ≡ true) lines
  pub here : n ≡ length lines + 1
  pub begins : Begins lines
  pub dead : IsDead lines tail (cut_line tail)

abbrev pub IsRefusedAt : List ℕ → ReportRefused → Type 0
IsRefusedAt bytes refused.NoMemory = Unit {0}
IsRefusedAt bytes (refused.BadLine n) = IsFirstBad bytes n
