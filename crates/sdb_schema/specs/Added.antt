-- A column added to a table.
use Rattle.std.specs.Prelude.{ℕ, nat_lt, List, length, map, Option, Some, None, if◌then◌else◌}
use Rattle.std.specs.Option.{option_map_or}
use Rattle.sdb_types.specs.declared.key.TableName.{TableName}
use Rattle.sdb_schema.specs.declared.table.Column.{Column}
use Rattle.sdb_schema.specs.declared.table.Table.{Table}
use Rattle.sdb_schema.specs.declared.added.ColumnRefused.{ColumnRefused}
use Rattle.sdb_schema.specs.declared.added.ColumnRefused.TheVariants as refused
use Rattle.sdb_schema.specs.Table.{has_column, is_reserved, put_column}
use Rattle.sdb_schema.specs.Catalog.{is_called, table_named}

-- Why a table refuses a column, by its number: 2 where it has a column of that name, 3 where the name is reserved, 4 where it has 64 columns.
abbrev pub column_refused_by : Table → Column → Option ℕ
column_refused_by t c =
    if has_column t.columns c.name then Some 2
    else if is_reserved c.name then Some 3
    else if nat_lt (length t.columns) 64 then None
    else Some 4

-- Why a catalog refuses a column of a table of that name: 1 where it lacks the table, and else why the table refuses it.
abbrev pub column_refused : List Table → TableName → Column → Option ℕ
column_refused ts name c = option_map_or (λ t. column_refused_by t c) (table_named ts name) (Some 1)

-- a table with a column more, in its place
abbrev pub grown : Table → Column → Table
grown t c = record { name = t.name; columns = put_column c t.columns; partition = t.partition; clustering = t.clustering; indexed = t.indexed }

abbrev pub grown_if : TableName → Column → Table → Table
grown_if name c t = if is_called name t then grown t c else t

-- the tables, that of the name with a column more
abbrev pub with_column : List Table → TableName → Column → List Table
with_column ts name c = map (grown_if name c) ts

-- the number of a refusal; out of memory has none
abbrev pub number_of : ColumnRefused → Option ℕ
number_of refused.NoTable = Some 1
number_of refused.RepeatedColumn = Some 2
number_of refused.ReservedName = Some 3
number_of refused.TooMany = Some 4
number_of refused.NoMemory = None
