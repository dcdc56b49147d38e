-- Plain tables, and the meaning of a statement on them: its answer, and the tables after it.
use Rattle.std.specs.Prelude.{ℕ, ℤ, pos, negsuc, Bool, not, ◌&&◌, if◌then◌else◌, List, [], ◌∷◌, map, filter, take, length, Option, Some, None, is_some, unwrap_or, take_while, fold, find, insert as list_insert}
use Rattle.std.specs.Option.{option_map_or}
use Rattle.std.specs.List.{list_all}
use Rattle.sdb_model.specs.Types.{Image, Key, Ordering, Pair, Table, TableName, Value}
use Rattle.std.specs.Ordering.{is_eq, is_ne, is_lt, is_le, is_gt, is_ge}
use Rattle.std.specs.FinMap.{FinMap, get, insert, entries, from_entries}
use Rattle.sdb_types.specs.declared.value.Value.TheVariants as value
use Rattle.sdb_types.specs.Order.{key_cmp, table_cmp, value_cmp}
use Rattle.sdb_types.specs.Columns.{is_null, with_column}
use Rattle.sdb_schema.specs.Order.{row_key_cmp}
use Rattle.sdb_model.specs.declared.statement.Comparison.{Comparison}
use Rattle.sdb_model.specs.declared.statement.Comparison.TheVariants.{Eq, Ne, Lt, Le, Gt, Ge}
use Rattle.sdb_model.specs.declared.statement.Test.{Test}
use Rattle.sdb_model.specs.declared.statement.Test.TheVariants.{Compare, IsNull, NotNull}
use Rattle.sdb_model.specs.declared.statement.Insert.{Insert}
use Rattle.sdb_model.specs.declared.statement.Update.{Update}
use Rattle.sdb_model.specs.declared.statement.Delete.{Delete}
use Rattle.sdb_model.specs.declared.statement.Select.{Select}
use Rattle.sdb_model.specs.declared.statement.Statement.{Statement}
use Rattle.sdb_model.specs.declared.statement.Statement.TheVariants as statement
use Rattle.sdb_model.specs.declared.answer.Answer.{Answer}
use Rattle.sdb_model.specs.declared.answer.Answer.TheVariants as answer
use Rattle.sdb_model.specs.Rows.{Name, order_names, value_of, value_in, column_names, is_key_column, literal_at}

-- The rows of all tables of a catalog: one finite map from a row's key, which names its table, to its user columns. So
-- the rows of a table have distinct keys, and tables with the same rows are equal. A column that isn't there is NULL.
abbrev pub Tables : Type 0
Tables = FinMap key_cmp (List Pair)

abbrev pub row_of_entry : Key × List Pair → Image
row_of_entry e = record { key = e.0; columns = e.1 }

abbrev pub entry_of_row : Image → Key × List Pair
entry_of_row r = (r.key, r.columns)

-- all rows, in the order of their keys
abbrev pub all_rows : Tables → List Image
all_rows d = map row_of_entry (entries d)

-- the tables that have these rows
abbrev pub tables_of_rows : List Image → Tables
tables_of_rows rows = from_entries (map entry_of_row rows)

---- tests: a comparison with NULL is false, but IS NULL is true and IS NOT NULL false of it

abbrev pub agrees : Comparison → Ordering → Bool
agrees Eq o = is_eq o
agrees Ne o = is_ne o
agrees Lt o = is_lt o
agrees Le o = is_le o
agrees Gt o = is_gt o
agrees Ge o = is_ge o

abbrev pub passes_test : Table → Image → Test → Bool
passes_test t r (Compare name c literal) = not (is_null (value_of t r name)) && agrees c (value_cmp (value_of t r name) (literal_at t name literal))
passes_test t r (IsNull name) = is_null (value_of t r name)
passes_test t r (NotNull name) = not (is_null (value_of t r name))

abbrev pub is_row_of : Table → Image → Bool
is_row_of t r = is_eq (table_cmp r.key.table t.name)

-- a row of the table that passes all tests
abbrev pub passes : Table → List Test → Image → Bool
passes t tests r = is_row_of t r && list_all (passes_test t r) tests

---- inserts

-- what an insert gives a column: its literal as a value of the column, NULL where the column isn't named
abbrev pub literal_in : Table → Insert → Name → Value
literal_in t s name = literal_at t name (value_in s.columns s.values name value.Null)

-- the key of the row that an insert names
abbrev pub key_of : Table → Insert → Key
key_of t s = record { table = t.name; partition = map (literal_in t s) t.partition; clustering = map (literal_in t s) (order_names t.clustering) }

-- the columns with each named user column set
abbrev pub with_named : Table → List Name → List Value → List Pair → List Pair
with_named t [] vs columns = columns
with_named t (n ∷ ns) [] columns = columns
with_named t (n ∷ ns) (v ∷ vs) columns =
    with_named t ns vs (if is_key_column t n then columns else with_column (record { name = n; value = literal_at t n v }) columns)

abbrev pub with_sets : Table → List Pair → List Pair → List Pair
with_sets t [] columns = columns
with_sets t (p ∷ ps) columns = with_sets t ps (with_column (record { name = p.name; value = literal_at t p.name p.value }) columns)

---- selects

-- with a row put before the first that it does not follow
abbrev pub placed : Table → List Image → Image → List Image
placed t xs r = list_insert xs (length (take_while (λ x. is_lt (row_key_cmp t x.key r.key)) xs)) r

-- rows in the order of their table
abbrev pub sorted : Table → List Image → List Image
sorted t rs = fold (placed t) [] rs

abbrev pub nat_of : ℤ → ℕ
nat_of (pos n) = n
nat_of (negsuc n) = 0

abbrev pub cut : Option ℤ → List Image → List Image
cut None rs = rs
cut (Some n) rs = take (nat_of n) rs

-- the columns that a SELECT names, for `*` all in name order
abbrev pub projected_names : Table → Option (List Name) → List Name
projected_names t None = column_names t
projected_names t (Some names) = names

abbrev pub projected : Table → Option (List Name) → Image → List Value
projected t columns r = map (value_of t r) (projected_names t columns)

---- exec: by filter and map over all rows

abbrev pub passing : Table → List Test → Tables → List Image
passing t tests d = filter (passes t tests) (all_rows d)

abbrev pub updated : Table → Update → Image → Image
updated t s r = if passes t s.tests r then record { key = r.key; columns = with_sets t s.sets r.columns } else r

-- A statement that names no table of the catalog is refused, and is in no body.
abbrev pub not_a_table : Answer
not_a_table = answer.Refused (record { kind = 6; place = 0 })

-- What a statement answers. INSERT answers Duplicate where its key has a row, else 1; UPSERT 1; UPDATE and DELETE the
-- number of the rows that pass all tests; SELECT the rows that pass, in the order of their table, cut at LIMIT, with the
-- named columns. One that names no table is refused.
abbrev pub answer_of : Table → Statement → Tables → Answer
answer_of t (statement.Insert s) d = if is_some (get d (key_of t s)) then answer.Duplicate (key_of t s) else answer.Count 1
answer_of t (statement.Upsert s) d = answer.Count 1
answer_of t (statement.Update s) d = answer.Count (length (passing t s.tests d))
answer_of t (statement.Delete s) d = answer.Count (length (passing t s.tests d))
answer_of t (statement.Select s) d = answer.Rows (map (projected t s.columns) (cut s.limit (sorted t (passing t s.tests d))))
answer_of t statement.Begin d = not_a_table
answer_of t statement.Commit d = not_a_table
answer_of t statement.Rollback d = not_a_table
answer_of t statement.Vacuum d = not_a_table

-- What a statement leaves. INSERT adds the row where its key has none, the columns that it doesn't name being NULL;
-- UPSERT adds it so, or changes its named columns; UPDATE changes the named columns of the rows that pass; DELETE takes
-- them out; SELECT leaves all.
abbrev pub left_by : Table → Statement → Tables → Tables
left_by t (statement.Insert s) d = if is_some (get d (key_of t s)) then d else insert d (key_of t s) (with_named t s.columns s.values [])
left_by t (statement.Upsert s) d = insert d (key_of t s) (with_named t s.columns s.values (unwrap_or (get d (key_of t s)) []))
left_by t (statement.Update s) d = tables_of_rows (map (updated t s) (all_rows d))
left_by t (statement.Delete s) d = tables_of_rows (filter (λ r. not (passes t s.tests r)) (all_rows d))
left_by t (statement.Select s) d = d
left_by t statement.Begin d = d
left_by t statement.Commit d = d
left_by t statement.Rollback d = d
left_by t statement.Vacuum d = d

abbrev pub table_of : Statement → Option TableName
table_of (statement.Insert s) = Some s.table
table_of (statement.Upsert s) = Some s.table
table_of (statement.Update s) = Some s.table
table_of (statement.Delete s) = Some s.table
table_of (statement.Select s) = Some s.table
table_of statement.Begin = None
table_of statement.Commit = None
table_of statement.Rollback = None
table_of statement.Vacuum = None

abbrev pub find_table : List Table → TableName → Option Table
find_table catalog name = find (λ t. is_eq (table_cmp t.name name)) catalog

-- the table that a statement names
abbrev pub named_table : List Table → Statement → Option Table
named_table catalog s = option_map_or (find_table catalog) (table_of s) None

abbrev pub exec_in : Option Table → Statement → Tables → Answer × Tables
exec_in None s d = (not_a_table, d)
exec_in (Some t) s d = (answer_of t s d, left_by t s d)

-- One statement on plain tables: its answer, and the tables after it.
abbrev pub exec : List Table → Statement → Tables → Answer × Tables
exec catalog s d = exec_in (named_table catalog s) s d
