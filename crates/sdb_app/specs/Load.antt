-- What the program promises of rows that are loaded into a table.
use Rattle.std.specs.Prelude.{◌≡◌, ℕ, List, Some, None, Ok, Err}
use Rattle.sdb_app.specs.Types.{CatalogRefused, CsvFault, Mode, Place, Table, TableName, Value}
use Rattle.sdb_types.specs.Bytes.{HasRisen}
use Rattle.sdb_schema.specs.Catalog.{table_named}
use Rattle.sdb_data.specs.Tables.{table_in}
use Rattle.sdb_shell.specs.Ends.{Ends as TableEnds}
use Rattle.sdb_shell.specs.Loads.{IsLoad, IsLoadOfOutOfMemory}
use Rattle.sdb_shell.specs.Statements.{load_of, rows_after}
use Rattle.sdb_stores.specs.Views.{StoreView as Counted}
use Rattle.sdb_app.specs.declared.status.InputFault.{InputFault}
use Rattle.sdb_app.specs.declared.status.InputFault.TheVariants.{Csv}
use Rattle.sdb_app.specs.declared.status.Status.{Status}
use Rattle.sdb_app.specs.declared.status.Status.TheVariants as status
use Rattle.sdb_app.specs.Ends.{Draws, IsUndrawn, Stream, Work}
use Rattle.sdb_app.specs.Input.{IsInput, IsInputLong}
use Rattle.sdb_app.specs.Schema.{status_of_catalog}
use Rattle.sdb_app.specs.Sql.{IsCatalogOpened, IsCatalogUnopened, stores_with}

---- the table

-- The catalog of the first store was opened, and has this table of that name. The stores hold what they held.
pub record IsTableOpened (name : TableName) (work : Work) (catalog : List Table) (places : List Place) (mid : List Counted) (t : Table) : Type 0 where
  pub opened : IsCatalogOpened work catalog places mid
  pub found : table_named catalog name ≡ Some t

-- Why no table was opened: the catalog was not, or it has none of that name. The stores hold what they held.
pub data IsTableUnopened (name : TableName) (work : Work) (s : Status) : Type 0 where
  Unopened : (cause : CatalogRefused) → IsCatalogUnopened work cause → s ≡ status_of_catalog cause → IsTableUnopened name work s
  Unnamed : (catalog : List Table) (places : List Place) → IsCatalogOpened work catalog places work.left → table_named catalog name ≡ None → s ≡ status.NoTable → IsTableUnopened name work s

-- a call over the stores with these places, from when they showed this
abbrev pub tables_ends : Work → List Place → List Counted → Draws → TableEnds
tables_ends work places mid d =
    record { old = stores_with work places mid; new = stores_with work places work.left; clock = d.clock; clock_then = d.clock_then; ids = d.ids; ids_then = d.ids_then }

---- the rows

-- The input was read to its end, and has these rows of the table.
pub record AreRowsRead (input rest : Stream) (t : Table) (m : Mode) (rows : List (List Value)) : Type 0 where
  pub text : List ℕ
  pub whole : IsInput input rest text
  pub read : table_in t m text ≡ Ok rows

-- The input was read to its end, and its record of this number is refused because of this fault.
pub record IsRecordBad (input rest : Stream) (t : Table) (m : Mode) (n : ℕ) (fault : CsvFault) : Type 0 where
  pub text : List ℕ
  pub whole : IsInput input rest text
  pub read : table_in t m text ≡ Err (n, fault)

abbrev pub IsRecordFault : Stream → Stream → Table → Mode → ℕ → InputFault → Type 0
IsRecordFault input rest t m n (Csv fault) = IsRecordBad input rest t m n fault
IsRecordFault input rest t m n _ = ⊥

-- Why no rows were read.
abbrev pub AreRowsUnread : Stream → Stream → Table → Mode → Status → Type 0
AreRowsUnread input rest t m status.ReadFault = HasRisen input.faults rest.faults
AreRowsUnread input rest t m status.NoMemory = Unit {0}
AreRowsUnread input rest t m (status.BadInput n fault) = IsRecordFault input rest t m n fault
AreRowsUnread input rest t m (status.Limit n which) = IsInputLong input rest n which
AreRowsUnread input rest t m _ = ⊥

---- the load

-- The rows of the input were loaded into the table of that name, so many in a transaction, with these lines.
pub record IsLoaded (name : TableName) (m : Mode) (size : ℕ) (work : Work) (d : Draws) (answer : List ℕ) : Type 0 where
  pub catalog : List Table
  pub places : List Place
  pub mid : List Counted
  pub table : Table
  pub rows : List (List Value)
  pub opened : IsTableOpened name work catalog places mid table
  pub read : AreRowsRead work.input work.rest table m rows
  pub loaded : IsLoad catalog (load_of table m rows) (rows_after rows) size (tables_ends work places mid d) answer

-- Why `load` has no answer: no table was opened, and nothing was read; or no rows were read; in both cases nothing was drawn, and the
-- stores hold what they held. Or memory ran out while the rows were loaded, after some groups.
pub data StopsLoad (name : TableName) (m : Mode) (size : ℕ) (work : Work) (d : Draws) (s : Status) : Type 0 where
  Untabled : IsTableUnopened name work s → work.rest ≡ work.input → IsUndrawn d → StopsLoad name m size work d s
  Unread : (catalog : List Table) (places : List Place) (t : Table) → IsTableOpened name work catalog places work.left t → AreRowsUnread work.input work.rest t m s → IsUndrawn d → StopsLoad name m size work d s
  OutOfMemory : (catalog : List Table) (places : List Place) (mid : List Counted) (t : Table) (rows : List (List Value)) → IsTableOpened name work catalog places mid t → AreRowsRead work.input work.rest t m rows → IsLoadOfOutOfMemory catalog t m rows size (tables_ends work places mid d) → s ≡ status.NoMemory → StopsLoad name m size work d s
