-- What the tables of a run hold before it begins.
use Rattle.std.specs.Prelude.{◌≡◌, ℕ, ◌<◌, List, [], ◌∷◌, map, length, slice_get, take_while, insert, Option, Some, None}
use Rattle.std.specs.List.{flat_map}
use Rattle.std.specs.Option.{option_map_or}
use Rattle.std.specs.Ordering.{is_lt}
use Rattle.sdb_contents.specs.Types.{Key, Place, Record, Span, Table, TableName}
use Rattle.sdb_types.specs.Contents.{rows_in}
use Rattle.sdb_types.specs.Order.{table_cmp}
use Rattle.sdb_record.specs.Coordinator.{coordinator_table}
use Rattle.sdb_stores.specs.Views.{Attached}
use Rattle.sdb_model.specs.Events.{StoreContents, contents_under, store_of}
use Rattle.sdb_contents.specs.Board.{AreUsableFor, contents_of_views}

-- a whole table
abbrev pub whole : TableName → Span
whole table = record { table = table; partition = None }

-- the names of a catalog's tables, in their order
abbrev pub table_names : List Table → List TableName
table_names catalog = map (λ t. t.name) catalog

-- the names of a run's tables, in their order: those of its catalog, with the coordinator's before the first that isn't below it
abbrev pub run_tables : List Table → List TableName
run_tables catalog = insert (table_names catalog) (length (take_while (λ n. is_lt (table_cmp n coordinator_table)) (table_names catalog))) coordinator_table

-- the records of a table, in the order of their keys, in the store where it is kept
abbrev pub records_of : List Place → List StoreContents → TableName → List Record
records_of places store_contents table = option_map_or (rows_in (whole table)) (contents_under store_contents (store_of places store_contents table.ns)) []

-- the same, as stores hold them
abbrev pub records_in : Attached → TableName → List Record
records_in stores table = records_of stores.places (contents_of_views stores.views) table

-- all records of a run's tables, table by table, in the order of their names
abbrev pub opening_records : List Table → List Place → List StoreContents → List Record
opening_records catalog places store_contents = flat_map (records_of places store_contents) (run_tables catalog)

-- the same, as stores hold them
abbrev pub opening_in : List Table → Attached → List Record
opening_in catalog stores = opening_records catalog stores.places (contents_of_views stores.views)

abbrev pub first_key : List Record → Option Key
first_key [] = None
first_key (r ∷ rs) = Some r.key

-- The key is that of the first record of tables, as far as contents are known: its table is one of them, which has it first, and the tables
-- before it hold none.
pub record IsFirstKey (tables : List TableName) (stores : Attached) (key : Key) : Type 0 where
  pub at : ℕ
  pub table : slice_get tables at ≡ Some key.table
  pub first : AreUsableFor key.table stores → first_key (records_in stores key.table) ≡ Some key
  pub none : (i : ℕ) (t : TableName) → i < at → slice_get tables i ≡ Some t → AreUsableFor t stores → records_in stores t ≡ []

-- Tables hold no record, as far as contents are known.
abbrev pub HoldNothing : List TableName → Attached → Type 0
HoldNothing tables stores = (i : ℕ) (t : TableName) → slice_get tables i ≡ Some t → AreUsableFor t stores → records_in stores t ≡ []
