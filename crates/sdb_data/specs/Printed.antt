-- The text of a table's rows, and which rows a text says.
use Rattle.std.specs.Prelude.{ℕ, nat_lt, if◌then◌else◌, Bool, true, false, not, ◌&&◌, List, [], ◌∷◌, map}
use Rattle.std.specs.List.{flat_map, list_all}
use Rattle.std.specs.Str.{is_utf8}
use Rattle.csv.specs.Writing.{default_writer, row_text}
use Rattle.sdb_types.specs.declared.value.Value.{Value}
use Rattle.sdb_types.specs.declared.value.Value.TheVariants as value
use Rattle.sdb_types.specs.Columns.{is_null}
use Rattle.sdb_schema.specs.declared.table.Column.{Column}
use Rattle.sdb_schema.specs.declared.table.Table.{Table}
use Rattle.sdb_schema.specs.Table.{column_names, is_key_column}
use Rattle.sdb_schema.specs.Rows.{is_of_kind, is_in_range}
use Rattle.sdb_data.specs.declared.fault.Mode.{Mode}
use Rattle.sdb_data.specs.declared.fault.Mode.TheVariants as mode
use Rattle.sdb_data.specs.Fields.{field_of, is_short}
use Rattle.sdb_types.specs.Fits.{fits_int}

-- records as the library writes them with its defaults: LF ends each, and quotes enclose a field that needs them
abbrev pub text_of : List (List (List ℕ)) → List ℕ
text_of records = flat_map (row_text default_writer) records

abbrev pub fields_of_row : List Value → List (List ℕ)
fields_of_row row = map field_of row

-- the names of all columns, and then each row
abbrev pub records_of : Table → List (List Value) → List (List (List ℕ))
records_of t rows = column_names t.columns ∷ map fields_of_row rows

abbrev pub printed : Table → List (List Value) → List ℕ
printed t rows = text_of (records_of t rows)

---- rows that a text says

abbrev pub is_byte : ℕ → Bool
is_byte b = nat_lt b 256

-- Each value holds what its type can: a number of 32 bits, a text in UTF-8, bytes. A text or a blob has at most 4,096 bytes.
abbrev pub is_small : Value → Bool
is_small value.Null = true
is_small (value.Bool b) = true
is_small (value.Int n) = fits_int n
is_small (value.BigInt n) = true
is_small (value.Text text) = is_utf8 text && is_short text
is_small (value.Blob bytes) = list_all is_byte bytes && is_short bytes

-- a value of a column: NULL outside the key, or one of its kind and in its range
abbrev pub is_cell : Table → Column → Value → Bool
is_cell t c v = if is_null v then not (is_key_column t c.name) else is_of_kind c.kind v && (is_in_range v && is_small v)

abbrev pub are_cells : Table → List Column → List Value → Bool
are_cells t [] [] = true
are_cells t [] (v ∷ vs) = false
are_cells t (c ∷ cs) [] = false
are_cells t (c ∷ cs) (v ∷ vs) = is_cell t c v && are_cells t cs vs

-- a row of a table: a value of each column
abbrev pub is_row : Table → List Value → Bool
is_row t row = are_cells t t.columns row

-- whether all columns may be loaded in a mode
abbrev pub can_load : Table → Mode → Bool
can_load t mode.Insert = true
can_load t mode.Upsert = true
can_load t mode.Update = not (list_all (λ c. is_key_column t c.name) t.columns)

-- the names of all columns, as texts
abbrev pub header_row : Table → List Value
header_row t = map value.Text (column_names t.columns)
