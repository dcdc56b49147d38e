-- The texts of a schema: names of tables and columns, kinds and directions.
use Rattle.std.specs.Prelude.{◌≡◌, ◌⊎◌, ◌∷◌, ◌++◌, ℕ, Bool, true, not, ◌&&◌, if◌then◌else◌, List, map, codes, Option, Some, None}
use Rattle.std.specs.Option.{option_map, option_and_then}
use Rattle.std.specs.Char.{to_ascii_lowercase}
use Rattle.std.specs.Str.{bytes_eq}
use Rattle.sdb_types.specs.declared.key.TableName.{TableName}
use Rattle.sdb_record.specs.Parts.{is_column_name}
use Rattle.sdb_schema.specs.declared.table.Kind.{Kind}
use Rattle.sdb_schema.specs.declared.table.Kind.TheVariants as kind
use Rattle.sdb_schema.specs.declared.table.Direction.{Direction}
use Rattle.sdb_schema.specs.declared.table.Direction.TheVariants.{Asc, Desc}
use Rattle.sdb_schema.specs.declared.table.Order.{Order}
use Rattle.sdb_types.specs.NameText.{around}

-- a text is a word, in any case
abbrev pub is_spelled : List ℕ → List ℕ → Bool
is_spelled word text = bytes_eq (map to_ascii_lowercase text) (map to_ascii_lowercase word)

---- names

-- a namespace that a schema may name: neither the coordinator's nor that of the catalog's own rows
abbrev pub is_open : List ℕ → Bool
is_open ns = not (bytes_eq ns (codes "coordinator")) && not (bytes_eq ns (codes "scalardb"))

abbrev pub names_table : List ℕ → List ℕ → Bool
names_table ns table = is_column_name ns && (is_open ns && is_column_name table)

-- the table whose name a text is: two identifiers of at most 64 bytes, joined by one dot
unfoldable pub table_named : List ℕ → Option TableName
table_named text =
    option_and_then (λ p. if names_table p.0 p.1 then Some (record { ns = p.0; table = p.1 }) else None) (around 46 text)

-- the text itself, where it is an identifier of at most 64 bytes
abbrev pub column_named : List ℕ → Option (List ℕ)
column_named text = if is_column_name text then Some text else None

---- kinds

-- the kind of a word, in any case
unfoldable pub kind_named : List ℕ → Option Kind
kind_named text =
    if is_spelled (codes "BOOLEAN") text then Some kind.Boolean
    else if is_spelled (codes "INT") text then Some kind.Int
    else if is_spelled (codes "BIGINT") text then Some kind.BigInt
    else if is_spelled (codes "TEXT") text then Some kind.Text
    else if is_spelled (codes "BLOB") text then Some kind.Blob
    else None

---- clustering columns

-- the direction of a word, in any case
unfoldable pub direction_named : List ℕ → Option Direction
direction_named word =
    if is_spelled (codes "ASC") word then Some Asc
    else if is_spelled (codes "DESC") word then Some Desc
    else None

abbrev pub ordered_by : List ℕ → Direction → Option Order
ordered_by name direction = option_map (λ n. record { name = n; direction = direction }) (column_named name)

abbrev pub order_around : List ℕ → Option (List ℕ × List ℕ) → Option Order
order_around text None = ordered_by text Asc
order_around text (Some p) = option_and_then (ordered_by p.0) (direction_named p.1)

-- the clustering column that a text is: a column's name alone, which ascends, or with one space and a direction after it
unfoldable pub order_named : List ℕ → Option Order
order_named text = order_around text (around 32 text)

-- A text has the form of a clustering column: the column's name alone, which ascends, or with one space and a direction after it.
abbrev pub IsOrderText : List ℕ → Order → Type 0
IsOrderText text o =
    (is_column_name o.name ≡ true)
    × (((text ≡ o.name) × (o.direction ≡ Asc)) ⊎ ((word : List ℕ) × (text ≡ o.name ++ 32 ∷ word) × (direction_named word ≡ Some o.direction)))
