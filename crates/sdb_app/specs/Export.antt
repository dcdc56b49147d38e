-- What the program promises of a table that is exported.
use Rattle.std.specs.Prelude.{◌≡◌, ℕ, List}
use Rattle.sdb_app.specs.Types.{ExportRefused, Place, Table, TableName}
use Rattle.sdb_shell.specs.declared.export_refused.ExportRefused.TheVariants as refused
use Rattle.sdb_shell.specs.Exports.{IsExport, IsNotExported}
use Rattle.sdb_stores.specs.Views.{StoreView as Counted}
use Rattle.sdb_app.specs.declared.status.Status.{Status}
use Rattle.sdb_app.specs.declared.status.Status.TheVariants as status
use Rattle.sdb_app.specs.Ends.{Draws, IsUndrawn, Work}
use Rattle.sdb_app.specs.Load.{IsTableOpened, IsTableUnopened, tables_ends}

-- The table of that name was read in one transaction, and the answer is its rows as CSV. Nothing of the input was read.
pub record IsExported (name : TableName) (work : Work) (d : Draws) (answer : List ℕ) : Type 0 where
  pub catalog : List Table
  pub places : List Place
  pub mid : List Counted
  pub table : Table
  pub opened : IsTableOpened name work catalog places mid table
  pub exported : IsExport catalog table (tables_ends work places mid d) answer
  pub unread : work.rest ≡ work.input

-- how the program ends where a table was not exported
abbrev pub status_of_export : ExportRefused → Status
status_of_export (refused.NotCommitted a) = status.NotCommitted a
status_of_export refused.NoMemory = status.NoMemory

-- Why `export` has no answer: no table was opened, nothing was drawn, and the stores hold what they held; or the table was not exported.
-- Nothing of the input was read.
pub data StopsExport (name : TableName) (work : Work) (d : Draws) (s : Status) : Type 0 where
  Untabled : IsTableUnopened name work s → IsUndrawn d → work.rest ≡ work.input → StopsExport name work d s
  Unexported : (catalog : List Table) (places : List Place) (mid : List Counted) (t : Table) (cause : ExportRefused) → IsTableOpened name work catalog places mid t → IsNotExported catalog t (tables_ends work places mid d) cause → s ≡ status_of_export cause → work.rest ≡ work.input → StopsExport name work d s
