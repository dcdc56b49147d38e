-- What a table is, and why columns and keys make none.
use Rattle.std.specs.Prelude.{◌≡◌, ℕ, Bool, true, false, not, ◌&&◌, ◌||◌, if◌then◌else◌, nat_le, List, [], ◌∷◌, ◌++◌, length, map, find, Option, Some, None, Result, Ok, Err, is_ok}
use Rattle.std.specs.Option.{option_map}
use Rattle.std.specs.List.{list_all, list_any}
use Rattle.std.specs.Ordering.{is_lt}
use Rattle.sdb_types.specs.Order.{name_cmp}
use Rattle.sdb_record.specs.Names.{is_user, same_name}
use Rattle.sdb_record.specs.Parts.{is_column_name}
use Rattle.sdb_schema.specs.declared.table.Kind.{Kind}
use Rattle.sdb_schema.specs.declared.table.Column.{Column}
use Rattle.sdb_schema.specs.declared.table.Order.{Order}
use Rattle.sdb_schema.specs.declared.table.Table.{Table}
use Rattle.sdb_schema.specs.declared.make.TableRefused.{TableRefused}
use Rattle.sdb_schema.specs.declared.make.TableRefused.TheVariants as refused

abbrev pub is_among : List (List ℕ) → List ℕ → Bool
is_among names name = list_any (same_name name) names

abbrev pub order_names : List Order → List (List ℕ)
order_names os = map (λ o. o.name) os

abbrev pub column_names : List Column → List (List ℕ)
column_names cs = map (λ c. c.name) cs

-- the primary key: the partition columns, then the clustering columns
abbrev pub key_names : Table → List (List ℕ)
key_names t = t.partition ++ order_names t.clustering

abbrev pub is_key_column : Table → List ℕ → Bool
is_key_column t name = is_among t.partition name || list_any (λ o. same_name name o.name) t.clustering

abbrev pub has_column : List Column → List ℕ → Bool
has_column cs name = list_any (λ c. same_name c.name name) cs

-- the kind of a column, or none where the table lacks it
abbrev pub kind_in : List Column → List ℕ → Option Kind
kind_in cs name = option_map (λ c. c.kind) (find (λ c. same_name c.name name) cs)

---- the order of columns

-- a column put before the first whose name isn't below its own
abbrev pub put_column : Column → List Column → List Column
put_column c [] = c ∷ []
put_column c (d ∷ ds) = if is_lt (name_cmp d.name c.name) then d ∷ put_column c ds else c ∷ d ∷ ds

abbrev pub put_columns : List Column → List Column → List Column
put_columns [] ds = ds
put_columns (c ∷ cs) ds = put_columns cs (put_column c ds)

-- columns in the order of their names
abbrev pub in_order : List Column → List Column
in_order cs = put_columns cs []

abbrev pub is_above_column : List ℕ → List Column → Bool
is_above_column name [] = true
is_above_column name (c ∷ cs) = is_lt (name_cmp name c.name)

-- names that rise strictly
abbrev pub rises : List Column → Bool
rises [] = true
rises (c ∷ cs) = is_above_column c.name cs && rises cs

---- refusals

-- the first name that is no column's
abbrev pub first_unknown : List Column → List (List ℕ) → Option (List ℕ)
first_unknown cs names = find (λ name. not (has_column cs name)) names

abbrev pub next_repeats : List ℕ → List Column → Bool
next_repeats name [] = false
next_repeats name (c ∷ cs) = same_name name c.name

-- the first name that two neighbours have
abbrev pub first_listed_twice : List Column → Option (List ℕ)
first_listed_twice [] = None
first_listed_twice (c ∷ cs) = if next_repeats c.name cs then Some c.name else first_listed_twice cs

-- the first name that comes before too, or is among those passed
abbrev pub first_repeated : List (List ℕ) → List (List ℕ) → Option (List ℕ)
first_repeated passed [] = None
first_repeated passed (name ∷ names) =
    if is_among passed name then Some name else first_repeated (passed ++ name ∷ []) names

-- the names that a table may not give its columns: those of metadata, and each that begins with `before_`
abbrev pub is_reserved : List ℕ → Bool
is_reserved name = not (is_user name)

abbrev pub first_reserved : List Column → Option (List ℕ)
first_reserved cs = option_map (λ c. c.name) (find (λ c. is_reserved c.name) cs)

-- the first limit that is passed: 64 columns, 8 partition columns, 8 clustering columns
abbrev pub limit_passed : Table → Option ℕ
limit_passed t =
    if not (nat_le (length t.columns) 64) then Some 64
    else if not (nat_le (length t.partition) 8) then Some 8
    else if not (nat_le (length t.clustering) 8) then Some 8
    else None

abbrev pub refuse : {A B : Type 0} → Option A → (A → TableRefused) → Result B TableRefused → Result B TableRefused
refuse None refusal next = next
refuse (Some a) refusal next = Err (refusal a)

abbrev pub none_of : List (List ℕ) → Option (Unit {0})
none_of [] = Some tt
none_of (n ∷ ns) = None

-- The table of columns that are in order, or the first refusal: no partition column; a column of the key or of an
-- index that isn't listed; a column listed twice, or twice in the primary key; a reserved name; too many columns, partition
-- columns or clustering columns.
unfoldable pub checked_table : Table → Result Table TableRefused
checked_table t =
    refuse (none_of t.partition) (λ u. refused.NoPartitionKey)
    (refuse (first_unknown t.columns (key_names t)) refused.UnknownColumn
    (refuse (first_unknown t.columns t.indexed) refused.UnknownColumn
    (refuse (first_listed_twice t.columns) refused.RepeatedColumn
    (refuse (first_repeated [] (key_names t)) refused.RepeatedColumn
    (refuse (first_reserved t.columns) refused.ReservedName
    (refuse (limit_passed t) refused.TooMany
    (Ok t)))))))

-- A table as it may be used: its columns in the order of their names, each with an identifier of at most 64 bytes, and no
-- refusal.
abbrev pub is_table : Table → Bool
is_table t = rises t.columns && (list_all (λ c. is_column_name c.name) t.columns && is_ok (checked_table t))

-- columns with names of at most 64 bytes
abbrev pub are_short : List Column → Bool
are_short cs = list_all (λ c. nat_le (length c.name) 64) cs

-- A refusal that comes; out of memory may be returned in the place of any outcome.
abbrev pub Refuses : Result Table TableRefused → TableRefused → Type 0
Refuses r refused.NoPartitionKey = r ≡ Err refused.NoPartitionKey
Refuses r (refused.UnknownColumn name) = r ≡ Err (refused.UnknownColumn name)
Refuses r (refused.RepeatedColumn name) = r ≡ Err (refused.RepeatedColumn name)
Refuses r (refused.ReservedName name) = r ≡ Err (refused.ReservedName name)
Refuses r (refused.TooMany limit) = r ≡ Err (refused.TooMany limit)
Refuses r refused.NoMemory = Unit {0}
