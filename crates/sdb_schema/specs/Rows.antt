-- Which rows a table takes.
use Rattle.std.specs.Prelude.{◌≡◌, ℕ, pos, negsuc, int_le, Bool, true, false, not, ◌&&◌, List, [], ◌∷◌, find, Option, Some, None, is_none}
use Rattle.std.specs.Option.{option_map, option_map_or}
use Rattle.std.specs.List.{list_all}
use Rattle.sdb_types.specs.declared.value.Value.{Value}
use Rattle.sdb_types.specs.declared.value.Value.TheVariants as value
use Rattle.sdb_types.specs.declared.pair.Pair.{Pair}
use Rattle.sdb_types.specs.declared.key.Key.{Key}
use Rattle.sdb_types.specs.Columns.{column}
use Rattle.sdb_schema.specs.declared.table.Kind.{Kind}
use Rattle.sdb_schema.specs.declared.table.Kind.TheVariants as kind
use Rattle.sdb_schema.specs.declared.table.Column.{Column}
use Rattle.sdb_schema.specs.declared.table.Table.{Table}
use Rattle.sdb_schema.specs.declared.row.RowRefused.{RowRefused}
use Rattle.sdb_schema.specs.declared.row.RowRefused.TheVariants as refused
use Rattle.sdb_schema.specs.Table.{is_key_column, kind_in, order_names}

-- whether a value is of a kind; NULL is of none
abbrev pub is_of_kind : Kind → Value → Bool
is_of_kind kind.Boolean (value.Bool b) = true
is_of_kind kind.Int (value.Int n) = true
is_of_kind kind.BigInt (value.BigInt n) = true
is_of_kind kind.Text (value.Text text) = true
is_of_kind kind.Blob (value.Blob bytes) = true
is_of_kind k v = false

-- a BIGINT is from -2^53 to 2^53
abbrev pub is_in_range : Value → Bool
is_in_range (value.BigInt n) = int_le (negsuc 9007199254740991) n && int_le n (pos 9007199254740992)
is_in_range v = true

abbrev pub is_of_column : List Column → List ℕ → Value → Bool
is_of_column cs name v = option_map_or (λ k. is_of_kind k v) (kind_in cs name) false

---- rows by column names

-- the first column of the primary key, in name order, that the row leaves NULL
abbrev pub null_in_key : Table → List Pair → Option (List ℕ)
null_in_key t row = option_map (λ c. c.name) (find (λ c. is_key_column t c.name && is_none (column row c.name)) t.columns)

-- the first column whose value is of another kind
abbrev pub wrong_type_among : List Column → List Pair → Option (List ℕ)
wrong_type_among cs row = option_map (λ p. p.name) (find (λ p. not (is_of_column cs p.name p.value)) row)

abbrev pub wrong_type : Table → List Pair → Option (List ℕ)
wrong_type t row = wrong_type_among t.columns row

-- the first column whose number is outside its kind
abbrev pub out_of_range : List Pair → Option (List ℕ)
out_of_range row = option_map (λ p. p.name) (find (λ p. not (is_in_range p.value)) row)

abbrev pub refuse_row : Option (List ℕ) → (List ℕ → RowRefused) → Option RowRefused → Option RowRefused
refuse_row None refusal next = next
refuse_row (Some name) refusal next = Some (refusal name)

-- Why a row of columns of the table is refused, if it is: a NULL in the primary key, a value of another kind, a number
-- outside its kind; within one, the first in name order.
abbrev pub row_refusal : Table → List Pair → Option RowRefused
row_refusal t row =
    refuse_row (null_in_key t row) refused.NullInKey (refuse_row (wrong_type t row) refused.WrongType (refuse_row (out_of_range row) refused.OutOfRange None))

-- The refusal that comes; out of memory alone may be returned in its place.
abbrev pub RefusesRow : Option RowRefused → RowRefused → Type 0
RefusesRow r (refused.NullInKey name) = r ≡ Some (refused.NullInKey name)
RefusesRow r (refused.WrongType name) = r ≡ Some (refused.WrongType name)
RefusesRow r (refused.OutOfRange name) = r ≡ Some (refused.OutOfRange name)
RefusesRow r refused.NoMemory = r ≡ None → ⊥

---- rows as they are stored

-- a value of a column, in range
abbrev pub is_value_of : List Column → List ℕ → Value → Bool
is_value_of cs name v = is_of_column cs name v && is_in_range v

-- one value for each of these columns
abbrev pub are_values_of : List Column → List (List ℕ) → List Value → Bool
are_values_of cs [] [] = true
are_values_of cs [] (v ∷ vs) = false
are_values_of cs (n ∷ ns) [] = false
are_values_of cs (n ∷ ns) (v ∷ vs) = is_value_of cs n v && are_values_of cs ns vs

-- a stored column is one of the table outside its primary key
abbrev pub is_stored_in : Table → Pair → Bool
is_stored_in t p = not (is_key_column t p.name) && is_value_of t.columns p.name p.value

-- A row fits its table: its key has a value of each column of the primary key, and each stored column is one of the
-- table outside its primary key, with a value of it.
abbrev pub fits_table : Table → Key → List Pair → Bool
fits_table t key columns =
    are_values_of t.columns t.partition key.partition && (are_values_of t.columns (order_names t.clustering) key.clustering && list_all (is_stored_in t) columns)
