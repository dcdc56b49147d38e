-- What a row of a table gives each of its columns.
use Rattle.std.specs.Prelude.{ℕ, Bool, ◌||◌, if◌then◌else◌, List, [], ◌∷◌, map, find, unwrap_or}
use Rattle.std.specs.Option.{option_map_or}
use Rattle.std.specs.List.{list_any}
use Rattle.std.specs.Ordering.{is_eq}
use Rattle.sdb_model.specs.Types.{Image, Kind, Order, Table, Value}
use Rattle.sdb_types.specs.declared.value.Value.TheVariants as value
use Rattle.sdb_types.specs.Order.{name_cmp}
use Rattle.sdb_types.specs.Columns.{column}
use Rattle.sdb_schema.specs.declared.table.Kind.TheVariants as kind
use Rattle.sdb_types.specs.Fits.{fits_int}

-- a name, as its bytes
abbrev pub Name : Type 0
Name = List ℕ

abbrev pub same_name : Name → Name → Bool
same_name a b = is_eq (name_cmp a b)

abbrev pub order_names : List Order → List Name
order_names = map (λ o. o.name)

-- the value that is beside a name, or else `rest`
abbrev pub value_in : List Name → List Value → Name → Value → Value
value_in [] vs name rest = rest
value_in (n ∷ ns) [] name rest = rest
value_in (n ∷ ns) (v ∷ vs) name rest = if same_name n name then v else value_in ns vs name rest

-- What a row gives a column: the value in its key, or the user column, where one that isn't stored is NULL.
abbrev pub value_of : Table → Image → Name → Value
value_of t r name =
    value_in t.partition r.key.partition name (value_in (order_names t.clustering) r.key.clustering name (unwrap_or (column r.columns name) value.Null))

-- the names of all columns, in name order
abbrev pub column_names : Table → List Name
column_names t = map (λ c. c.name) t.columns

abbrev pub is_key_column : Table → Name → Bool
is_key_column t name = list_any (λ n. same_name n name) t.partition || list_any (λ o. same_name o.name name) t.clustering

abbrev pub kind_of_column : Table → Name → Kind
kind_of_column t name = option_map_or (λ c. c.kind) (find (λ c. same_name c.name name) t.columns) kind.Text

-- A literal as a value of a kind: a number, which a statement holds as a BigInt, is an Int in an INT column.
abbrev pub at_kind : Kind → Value → Value
at_kind kind.Int (value.BigInt n) = if fits_int n then value.Int n else value.BigInt n
at_kind k v = v

-- a literal as a value of a column
abbrev pub literal_at : Table → Name → Value → Value
literal_at t name v = at_kind (kind_of_column t name) v
