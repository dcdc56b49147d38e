-- What is printed of a table's records under decisions on transactions, and which records are well formed.
use Rattle.std.specs.Prelude.{◌&&◌, Bool, true, List, Option, None, map}
use Rattle.std.specs.List.{filter_map}
use Rattle.std.specs.Option.{option_map, option_and_then, option_map_or}
use Rattle.sdb_contents.specs.Types.{Decided, Image, Pair, Record, Table, TableDump, TxId}
use Rattle.sdb_record.specs.Meta.{id_in, is_transactional}
use Rattle.sdb_record.specs.Rolls.{image_of, row_of_image}
use Rattle.sdb_schema.specs.Rows.{fits_table}
use Rattle.sdb_model.specs.Exec.{projected, sorted}

-- the row of a record's committed image, under the decision on its writer
abbrev pub row_by : (TxId → Option Decided) → Record → Option (List Pair)
row_by decide r = option_and_then row_of_image (image_of r (option_and_then decide (id_in r.columns)))

abbrev pub image_by : (TxId → Option Decided) → Record → Option Image
image_by decide r = option_map (λ columns. record { key = r.key; columns = columns }) (row_by decide r)

-- the rows of a table's records, in its order, all columns in name order
abbrev pub dump_by : (TxId → Option Decided) → Table → List Record → TableDump
dump_by decide t records = record { name = t.name; rows = map (projected t None) (sorted t (filter_map (image_by decide) records)) }

-- the row of a record's committed image, where it has one, fits the table
abbrev pub image_is_well_typed : (TxId → Option Decided) → Table → Record → Bool
image_is_well_typed decide t r = option_map_or (fits_table t r.key) (row_by decide r) true

-- A record of a table is well formed: it passes the checks of its metadata, and its committed image fits the table.
abbrev pub is_well_formed : (TxId → Option Decided) → Table → Record → Bool
is_well_formed decide t r = is_transactional r && image_is_well_typed decide t r
