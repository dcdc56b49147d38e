-- The catalog that a text describes, or why it describes none.
use Rattle.std.specs.Prelude.{◌≡◌, ℕ, nat_le, if◌then◌else◌, List, [], ◌∷◌, length, map, Option, Some, None, Result, Ok, Err, is_some}
use Rattle.std.specs.Option.{option_map, option_map_or, option_or}
use Rattle.std.specs.List.{cons_option}
use Rattle.std.specs.Str.{is_utf8}
use Rattle.sdb_types.specs.declared.key.TableName.{TableName}
use Rattle.sdb_schema.specs.declared.table.Table.{Table}
use Rattle.sdb_schema.specs.declared.make.TableRefused.{TableRefused}
use Rattle.sdb_schema.specs.Table.{in_order, checked_table}
use Rattle.serde_json.specs.Data.{Data, Members, no_members, member}
use Rattle.serde_json.specs.Read.{read}
use Rattle.serde_json.specs.Find.{as_object}
use Rattle.sdb_loader.specs.declared.fault.SchemaFault.{SchemaFault}
use Rattle.sdb_loader.specs.declared.fault.SchemaFault.TheVariants as fault
use Rattle.sdb_loader.specs.Words.{table_named}
use Rattle.sdb_loader.specs.Fields.{clustering_key, partition_key, secondary_index, bad_member, is_untransactional, unknown_column, names_at, orders_at, columns_in}

---- the tables of a schema, and their values

-- the first member whose name is no table's
abbrev pub bad_name : Members → Option (List ℕ)
bad_name no_members = None
bad_name (member k d ms) = if is_some (table_named k) then bad_name ms else Some k

abbrev pub with_value : Data → Option TableName → Option (TableName × Data)
with_value d name = option_map (λ n. (n, d)) name

-- the tables that the members name, with their values
abbrev pub named : Members → List (TableName × Data)
named no_members = []
named (member k d ms) = cons_option (with_value d (table_named k)) (named ms)

-- the table that a value describes under a name
abbrev pub table_of : TableName × Data → Table
table_of t = record {
  name = t.0;
  columns = in_order (columns_in t.1);
  partition = names_at partition_key t.1;
  clustering = orders_at clustering_key t.1;
  indexed = names_at secondary_index t.1;
}

---- what is wrong with one table

abbrev pub untransactional : TableName × Data → Option TableName
untransactional t = if is_untransactional t.1 then Some t.0 else None

abbrev pub bad_field : TableName × Data → Option (TableName × List ℕ)
bad_field t = option_map (λ m. (t.0, m)) (bad_member t.1)

abbrev pub unknown_type : TableName × Data → Option (TableName × List ℕ)
unknown_type t = option_map (λ c. (t.0, c)) (unknown_column t.1)

abbrev pub refusal_in : {A : Type 0} → Result A TableRefused → Option TableRefused
refusal_in (Ok a) = None
refusal_in (Err r) = Some r

abbrev pub bad_table : TableName × Data → Option (TableName × TableRefused)
bad_table t = option_map (λ r. (t.0, r)) (refusal_in (checked_table (table_of t)))

---- the first fault

-- what is given of the first table of which something is given
abbrev pub first_given : {A B : Type 0} → (A → Option B) → List A → Option B
first_given given [] = None
first_given given (t ∷ ts) = option_or (given t) (first_given given ts)

abbrev pub refuse : {A B : Type 0} → Option A → (A → SchemaFault) → Result B SchemaFault → Result B SchemaFault
refuse None refusal next = next
refuse (Some a) refusal next = Err (refusal a)

-- at most 64 tables
abbrev pub within_limit : List Table → Result (List Table) SchemaFault
within_limit ts = if nat_le (length ts) 64 then Ok ts else Err fault.TooManyTables

-- The tables, or the first fault: a table that isn't transactional, a member that isn't of its form, a kind that isn't known, a
-- table that is refused, each of the first table that has it; more than 64 tables.
unfoldable pub described_tables : List (TableName × Data) → Result (List Table) SchemaFault
described_tables ts =
    refuse (first_given untransactional ts) fault.NonTransactional
    (refuse (first_given bad_field ts) (λ f. fault.BadField f.0 f.1)
    (refuse (first_given unknown_type ts) (λ f. fault.UnknownType f.0 f.1)
    (refuse (first_given bad_table ts) (λ f. fault.BadTable f.0 f.1)
    (within_limit (map table_of ts)))))

-- the same of the members of a schema, whose names are tables'
unfoldable pub described_members : Members → Result (List Table) SchemaFault
described_members ms = refuse (bad_name ms) fault.BadTableName (described_tables (named ms))

-- the same of a JSON value, which is an object
abbrev pub described : Data → Result (List Table) SchemaFault
described d = option_map_or described_members (as_object d) (Err fault.NotAnObject)

-- the value of a text in UTF-8, nested at most 127 deep, or none where it is no JSON
abbrev pub json_of : List ℕ → Option Data
json_of text = if is_utf8 text then read text else None

-- The tables of the catalog that a text describes, in the order of their names, or the first fault.
abbrev pub catalog_in : List ℕ → Result (List Table) SchemaFault
catalog_in text = option_map_or described (json_of text) (Err fault.NotJson)

-- The table that a text describes under a name, alone, or the first fault.
abbrev pub described_table : TableName → List ℕ → Result (List Table) SchemaFault
described_table name text = option_map_or (λ d. described_tables ((name, d) ∷ [])) (read text) (Err fault.NotJson)

-- A fault that comes of an outcome; out of memory may be returned in the place of any outcome.
abbrev pub Faults : {A : Type 0} → Result A SchemaFault → SchemaFault → Type 0
Faults r fault.NotJson = r ≡ Err fault.NotJson
Faults r fault.NotAnObject = r ≡ Err fault.NotAnObject
Faults r (fault.BadTableName text) = r ≡ Err (fault.BadTableName text)
Faults r (fault.NonTransactional table) = r ≡ Err (fault.NonTransactional table)
Faults r (fault.BadField table name) = r ≡ Err (fault.BadField table name)
Faults r (fault.UnknownType table column) = r ≡ Err (fault.UnknownType table column)
Faults r (fault.BadTable table refusal) = r ≡ Err (fault.BadTable table refusal)
Faults r fault.TooManyTables = r ≡ Err fault.TooManyTables
Faults r fault.NoMemory = Unit {0}
