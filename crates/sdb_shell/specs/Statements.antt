-- The statements by which rows are loaded into a table, and the one by which it is read whole.
use Rattle.std.specs.Prelude.{◌≡◌, ℕ, Bool, false, not, ◌&&◌, List, [], ◌∷◌, map, filter, None, Ok}
use Rattle.std.specs.List.{list_any}
use Rattle.sdb_shell.specs.Types.{Column, Insert, Mode, Pair, Statement, Table, Test, Update, Value}
use Rattle.sdb_types.specs.declared.value.Value.TheVariants as value
use Rattle.sdb_record.specs.Names.{same_name}
use Rattle.sdb_record.specs.Parts.{is_column_name}
use Rattle.sdb_schema.specs.Table.{column_names, is_key_column}
use Rattle.sdb_data.specs.declared.fault.Mode.TheVariants as mode
use Rattle.sdb_data.specs.Tables.{table_in}
use Rattle.sdb_model.specs.declared.statement.Comparison.TheVariants.{Eq}
use Rattle.sdb_model.specs.declared.statement.Statement.TheVariants as statement
use Rattle.sdb_model.specs.declared.statement.Test.TheVariants.{Compare}
use Rattle.sdb_shell.specs.declared.load.Load.{Load}

---- rows that a text of CSV has

-- These rows are read from some text, for a table and in a mode: the first lists the names of columns, as texts.
abbrev pub AreRead : Table → Mode → List (List Value) → Type 0
AreRead t m rows = (text : List ℕ) × (table_in t m text ≡ Ok rows)

abbrev pub first_row : List (List Value) → List Value
first_row [] = []
first_row (first ∷ rows) = first

-- a value is this text
abbrev pub is_text : List ℕ → Value → Bool
is_text name (value.Text text) = same_name text name
is_text name _ = false

-- the names of the columns that a row lists, in their order
abbrev pub names_listed : List Value → List Column → List (List ℕ)
names_listed first columns = filter (λ name. list_any (is_text name) first) (column_names columns)

-- those that the first row lists
abbrev pub names_in : Table → List (List Value) → List (List ℕ)
names_in t rows = names_listed (first_row rows) t.columns

-- the rows after it
abbrev pub rows_after : List (List Value) → List (List Value)
rows_after [] = []
rows_after (first ∷ rows) = rows

-- a table whose names are identifiers of at most 64 bytes
abbrev pub has_short_name : Table → Bool
has_short_name t = is_column_name t.name.ns && is_column_name t.name.table

-- what is loaded of rows that were read
abbrev pub load_of : Table → Mode → List (List Value) → Load
load_of t m rows = record { mode = m; table = t; names = names_in t rows }

---- a row's statement

-- a value as a statement has it: a number there is held as a BigInt
abbrev pub literal_of : Value → Value
literal_of value.Null = value.Null
literal_of (value.Bool b) = value.Bool b
literal_of (value.Int n) = value.BigInt n
literal_of (value.BigInt n) = value.BigInt n
literal_of (value.Text text) = value.Text text
literal_of (value.Blob bytes) = value.Blob bytes

abbrev pub pair_of : List ℕ → Value → Pair
pair_of name v = record { name = name; value = literal_of v }

-- each named column with its literal
abbrev pub pairs_of : List (List ℕ) → List Value → List Pair
pairs_of [] row = []
pairs_of (n ∷ ns) [] = []
pairs_of (n ∷ ns) (v ∷ vs) = pair_of n v ∷ pairs_of ns vs

abbrev pub insert_of : Load → List Value → Insert
insert_of load row = record { table = load.table.name; columns = load.names; values = map literal_of row }

-- the columns outside the primary key
abbrev pub sets_of : Table → List Pair → List Pair
sets_of t pairs = filter (λ p. not (is_key_column t p.name)) pairs

-- a column has this value
abbrev pub test_of : Pair → Test
test_of p = Compare p.name Eq p.value

-- those of the primary key have the row's values
abbrev pub tests_of : Table → List Pair → List Test
tests_of t pairs = map test_of (filter (λ p. is_key_column t p.name) pairs)

abbrev pub update_of : Load → List Value → Update
update_of load row = record { table = load.table.name; sets = sets_of load.table (pairs_of load.names row); tests = tests_of load.table (pairs_of load.names row) }

abbrev pub statement_by : Mode → Load → List Value → Statement
statement_by mode.Insert load row = statement.Insert (insert_of load row)
statement_by mode.Update load row = statement.Update (update_of load row)
statement_by mode.Upsert load row = statement.Upsert (insert_of load row)

-- The statement that loads a row: INSERT or UPSERT of the named columns, or UPDATE of those outside the primary key where the whole
-- key is the row's.
abbrev pub row_statement : Load → List Value → Statement
row_statement load row = statement_by load.mode load row

---- all of a table

-- `SELECT *` of a table
abbrev pub select_all : Table → Statement
select_all t = statement.Select (record { table = t.name; columns = None; tests = []; limit = None })
