-- A table as JSON: its value in a schema, and the text of that.
use Rattle.std.specs.Prelude.{ℕ, List, [], ◌∷◌, ◌++◌, map, codes}
use Rattle.serde_json.specs.Data.{Data, string, array, object, Members, no_members, member}
use Rattle.serde_json.specs.View.{items_of}
use Rattle.serde_json.specs.Written.{compact_text}
use Rattle.sdb_catalog.specs.Types.{Column, Direction, Order, Table}
use Rattle.sdb_schema.specs.declared.table.Direction.TheVariants.{Asc, Desc}
use Rattle.sdb_schema.specs.Kinds.{kind_text}
use Rattle.sdb_loader.specs.Fields.{clustering_key, columns, partition_key, secondary_index}

abbrev pub direction_text : Direction → List ℕ
direction_text Asc = codes "ASC"
direction_text Desc = codes "DESC"

-- a clustering column: its name, one space and its direction
abbrev pub order_text : Order → List ℕ
order_text o = (o.name ++ codes " ") ++ direction_text o.direction

-- names as an array
abbrev pub names_data : List (List ℕ) → Data
names_data names = array (items_of (map string names))

-- clustering columns as an array
abbrev pub orders_data : List Order → Data
orders_data orders = array (items_of (map (λ o. string (order_text o)) orders))

-- columns as the members of an object, each with its kind
abbrev pub columns_data : List Column → Members
columns_data [] = no_members
columns_data (c ∷ cs) = member c.name (string (kind_text c.kind)) (columns_data cs)

-- the members of a table's value but its columns
abbrev pub keys_of : Table → Members
keys_of t =
    member clustering_key (orders_data t.clustering)
    (member partition_key (names_data t.partition)
    (member secondary_index (names_data t.indexed) no_members))

-- the value of a table in a schema, its members in the order of their names
abbrev pub definition_of : Table → Data
definition_of t = object
    (member clustering_key (orders_data t.clustering)
    (member columns (object (columns_data t.columns))
    (member partition_key (names_data t.partition)
    (member secondary_index (names_data t.indexed) no_members))))

-- the same as compact JSON
unfoldable pub definition_text : Table → List ℕ
definition_text t = compact_text (definition_of t)
