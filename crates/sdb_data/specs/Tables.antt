-- The rows of a table that a text of CSV has, or the first record that is refused, and why.
use Rattle.std.specs.Prelude.{◌≡◌, ℕ, ◌+◌, ◌==◌, Bool, not, if◌then◌else◌, List, [], ◌∷◌, ◌++◌, length, map, get_or, Option, Some, None, Result, Ok, Err, position}
use Rattle.std.specs.Option.{option_map, option_map_or, option_or}
use Rattle.std.specs.List.{list_all, list_any, filter_map}
use Rattle.std.specs.Str.{is_utf8}
use Rattle.sdb_types.specs.declared.value.Value.{Value}
use Rattle.sdb_types.specs.declared.value.Value.TheVariants as value
use Rattle.sdb_record.specs.Names.{same_name}
use Rattle.sdb_schema.specs.declared.table.Kind.TheVariants as kind
use Rattle.sdb_schema.specs.declared.table.Column.{Column}
use Rattle.sdb_schema.specs.declared.table.Table.{Table}
use Rattle.sdb_schema.specs.Table.{has_column, is_key_column, key_names, kind_in}
use Rattle.sdb_data.specs.declared.fault.CsvFault.{CsvFault}
use Rattle.sdb_data.specs.declared.fault.CsvFault.TheVariants as fault
use Rattle.sdb_data.specs.declared.fault.CsvRefused.{CsvRefused}
use Rattle.sdb_data.specs.declared.fault.CsvRefused.TheVariants.{BadCsv, NoMemory as OutOfMemory}
use Rattle.sdb_data.specs.declared.fault.Mode.{Mode}
use Rattle.sdb_data.specs.declared.fault.Mode.TheVariants as mode
use Rattle.sdb_data.specs.declared.field.Head.{Head}
use Rattle.sdb_data.specs.declared.header.ColumnFound.{ColumnFound}
use Rattle.sdb_data.specs.Records.{csv_records}
use Rattle.sdb_data.specs.Fields.{suits, value_at}

-- a fault with a place, counted from 1
abbrev pub at_place : (ℕ → CsvFault) → Option ℕ → Option CsvFault
at_place answered place = option_map (λ i. answered (i + 1)) place

abbrev pub not_text : List (List ℕ) → Option CsvFault
not_text fields = if list_all is_utf8 fields then None else Some fault.NotUtf8

---- the header: the names of columns

abbrev pub is_named : List (List ℕ) → List ℕ → Bool
is_named header name = list_any (λ n. same_name n name) header

-- the first name that is no column's
abbrev pub unknown_place : Table → List (List ℕ) → Option ℕ
unknown_place t header = position (λ name. not (has_column t.columns name)) header

-- the first name that comes before too, or is among those passed; counted from their number
abbrev pub repeat_place : List (List ℕ) → List (List ℕ) → Option ℕ
repeat_place passed [] = None
repeat_place passed (name ∷ names) = if is_named passed name then Some (length passed) else repeat_place (passed ++ name ∷ []) names

-- the first column of the primary key that isn't named
abbrev pub missing_place : Table → List (List ℕ) → Option ℕ
missing_place t header = position (λ name. not (is_named header name)) (key_names t)

-- a row is updated by its key, so there is something to set where another column is named
abbrev pub nothing_to_set : Table → Mode → List (List ℕ) → Option CsvFault
nothing_to_set t mode.Insert header = None
nothing_to_set t mode.Upsert header = None
nothing_to_set t mode.Update header = if list_all (is_key_column t) header then Some (fault.MissingKey 0) else None

-- Why names make no header, if they don't: one that is no column's; one that comes before too; a column of the primary key that
-- isn't among them; in mode update, columns of the key alone.
unfoldable pub names_fault : Table → Mode → List (List ℕ) → Option CsvFault
names_fault t m header =
    option_or (at_place fault.NoColumn (unknown_place t header))
    (option_or (at_place fault.RepeatedColumn (repeat_place [] header))
    (option_or (at_place fault.MissingKey (missing_place t header)) (nothing_to_set t m header)))

-- the same of fields, which are UTF-8
abbrev pub header_fault : Table → Mode → List (List ℕ) → Option CsvFault
header_fault t m header = option_or (not_text header) (names_fault t m header)

-- a column that is named: its kind, and whether it is of the primary key
abbrev pub head_of : Table → List ℕ → Head
head_of t name = record { kind = option_map_or (λ k. k) (kind_in t.columns name) kind.Text; in_key = is_key_column t name }

abbrev pub heads_of : Table → List (List ℕ) → List Head
heads_of t header = map (head_of t) header

---- a record under the header

-- the first field that its column doesn't take
abbrev pub bad_place : List Head → List (List ℕ) → Option ℕ
bad_place [] fields = None
bad_place (h ∷ hs) [] = None
bad_place (h ∷ hs) (f ∷ fs) = if suits h f then option_map (λ i. i + 1) (bad_place hs fs) else Some 0

abbrev pub other_length : List Head → List (List ℕ) → Option CsvFault
other_length heads fields = if length fields == length heads then None else Some fault.Fields

-- Why a record is refused, if it is: a field that isn't UTF-8; another number of fields than the header's; a field that its column
-- doesn't take.
unfoldable pub record_fault : List Head → List (List ℕ) → Option CsvFault
record_fault heads fields =
    option_or (not_text fields) (option_or (other_length heads fields) (at_place fault.BadValue (bad_place heads fields)))

---- all records

abbrev pub in_record : ℕ → Option CsvFault → Option (ℕ × CsvFault)
in_record n found = option_map (λ f. (n, f)) found

-- the first fault of records that are counted from n
abbrev pub fault_from : List Head → ℕ → List (List (List ℕ)) → Option (ℕ × CsvFault)
fault_from heads n [] = None
fault_from heads n (r ∷ rs) = option_or (in_record n (record_fault heads r)) (fault_from heads (n + 1) rs)

-- the first fault of names and of the records after them
abbrev pub fault_behind : Table → Mode → List (List ℕ) → List (List (List ℕ)) → Option (ℕ × CsvFault)
fault_behind t m names records = option_or (in_record 1 (names_fault t m names)) (fault_from (heads_of t names) 2 records)

-- The first record that is refused, counted from 1, and why. A text without a header lacks the first column of the key.
abbrev pub first_fault : Table → Mode → List (List (List ℕ)) → Option (ℕ × CsvFault)
first_fault t m [] = Some (1, fault.MissingKey 1)
first_fault t m (header ∷ records) = option_or (in_record 1 (header_fault t m header)) (fault_from (heads_of t header) 2 records)

---- rows

-- where a column of the table is named, with its kind
abbrev pub column_found : List (List ℕ) → Column → Option ColumnFound
column_found header c = option_map (λ i. record { kind = c.kind; place = i }) (position (λ n. same_name n c.name) header)

-- the columns that the header names, in the order of their names
abbrev pub columns_found : List Column → List (List ℕ) → List ColumnFound
columns_found columns header = filter_map (column_found header) columns

abbrev pub cell_of : List (List ℕ) → ColumnFound → Value
cell_of fields x = value_at x.kind (get_or fields x.place [])

-- the values of a record, in the order of their columns' names
abbrev pub row_of : List ColumnFound → List (List ℕ) → List Value
row_of accepted fields = map (cell_of fields) accepted

-- the name of a column that is named, as a text
abbrev pub named_at : List (List ℕ) → Column → Option Value
named_at header c = if is_named header c.name then Some (value.Text c.name) else None

-- the names of the columns that the header names, in their order
abbrev pub named_row : List Column → List (List ℕ) → List Value
named_row columns header = filter_map (named_at header) columns

-- The rows that are read: first the names of the columns that the text has, and then the values of each record.
abbrev pub rows_in : Table → List (List (List ℕ)) → List (List Value)
rows_in t [] = []
rows_in t (header ∷ records) = named_row t.columns header ∷ map (row_of (columns_found t.columns header)) records

abbrev pub read_rows : Option (ℕ × CsvFault) → List (List Value) → Result (List (List Value)) (ℕ × CsvFault)
read_rows None rows = Ok rows
read_rows (Some f) rows = Err f

-- What a text is read as: the rows, or the first fault with the number of its record.
abbrev pub table_in : Table → Mode → List ℕ → Result (List (List Value)) (ℕ × CsvFault)
table_in t m text = read_rows (first_fault t m (csv_records text)) (rows_in t (csv_records text))

-- a refusal that names a first fault, or says out of memory
abbrev pub IsFirstFault : Option (ℕ × CsvFault) → CsvRefused → Type 0
IsFirstFault found (BadCsv n f) = found ≡ Some (n, f)
IsFirstFault found OutOfMemory = Unit {0}

-- A refusal that comes of an outcome; out of memory may be returned in the place of any.
abbrev pub Refuses : {A : Type 0} → Result A (ℕ × CsvFault) → CsvRefused → Type 0
Refuses r (BadCsv n f) = r ≡ Err (n, f)
Refuses r OutOfMemory = Unit {0}
