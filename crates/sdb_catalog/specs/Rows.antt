-- The rows of the catalog, each of one table.
use Rattle.std.specs.Prelude.{◌≡◌, ◌⊎◌, ℕ, pos, true, List, [], ◌∷◌, codes, Option, Some, None}
use Rattle.std.specs.Option.{option_map, option_and_then}
use Rattle.sdb_catalog.specs.Types.{Key, Pair, Record, Table, TableName, TxId, Value}
use Rattle.sdb_types.specs.declared.value.Value.TheVariants as value
use Rattle.sdb_types.specs.Columns.{column, with_column}
use Rattle.sdb_types.specs.Order.{table_text}
use Rattle.sdb_types.specs.TxId.{id_text}
use Rattle.sdb_types.specs.Contents.{tx_id, tx_state}
use Rattle.sdb_record.specs.Coordinator.{coordinator_table}
use Rattle.sdb_record.specs.Names.{tx_created_at}
use Rattle.sdb_schema.specs.declared.table.Kind.TheVariants as kind
use Rattle.sdb_schema.specs.Table.{is_table}
use Rattle.sdb_loader.specs.Words.{names_table}
use Rattle.sdb_catalog.specs.declared.entry.Entry.{Entry}
use Rattle.sdb_catalog.specs.Definition.{definition_text}

-- the table of the catalog's rows
abbrev pub metadata_table : TableName
metadata_table = record { ns = codes "scalardb"; table = codes "metadata" }

-- the key of a table's row
unfoldable pub metadata_key_of : TableName → Key
metadata_key_of name =
    record { table = metadata_table; partition = value.Text (table_text name) ∷ []; clustering = [] }

abbrev pub definition_column : List ℕ
definition_column = codes "definition"

abbrev pub store_column : List ℕ
store_column = codes "store"

-- columns with the definition of a table and its store
abbrev pub with_texts : List ℕ → List ℕ → List Pair → List Pair
with_texts definition store columns =
    with_column (record { name = store_column; value = value.Text store })
    (with_column (record { name = definition_column; value = value.Text definition }) columns)

-- the columns of a table's row: its definition, the store, the revision as an id, and the state 3
abbrev pub metadata_columns_of : List ℕ → List ℕ → TxId → List Pair
metadata_columns_of definition store revision =
    record { name = definition_column; value = value.Text definition }
    ∷ record { name = store_column; value = value.Text store }
    ∷ record { name = tx_id; value = value.Text (id_text revision.0) }
    ∷ record { name = tx_state; value = value.Int (pos 3) } ∷ []

-- The row that says this of a table.
unfoldable pub row_of : Entry → Record
row_of e =
    record { key = metadata_key_of e.table.name; columns = metadata_columns_of (definition_text e.table) e.store e.revision }

-- the coordinator's table, as its row describes it
unfoldable pub coordinators : Table
coordinators = record {
  name = coordinator_table;
  columns =
      record { name = tx_created_at; kind = kind.BigInt }
      ∷ record { name = tx_id; kind = kind.Text }
      ∷ record { name = tx_state; kind = kind.Int } ∷ [];
  partition = tx_id ∷ [];
  clustering = [];
  indexed = [];
}

-- A table that may have a row: one that a schema may name, or the coordinator's.
abbrev pub MayHaveRow : Table → Type 0
MayHaveRow t = (t ≡ coordinators) ⊎ ((is_table t ≡ true) × (names_table t.name.ns t.name.table ≡ true))

---- what any record says where a row has its texts

pub record Texts : Type 0 where
  pub name : List ℕ
  pub definition : List ℕ
  pub store : List ℕ
  pub revision : List ℕ

abbrev pub text_of : Option Value → Option (List ℕ)
text_of (Some (value.Text text)) = Some text
text_of _ = None

-- the text that is the only value
abbrev pub only_text : List Value → Option (List ℕ)
only_text (value.Text text ∷ []) = Some text
only_text _ = None

-- the text in a column
abbrev pub text_at : List ℕ → Record → Option (List ℕ)
text_at name r = text_of (column r.columns name)

-- the texts of a record that has one text as its partition, and texts in the three columns
unfoldable pub texts_of : Record → Option Texts
texts_of r =
    option_and_then (λ name.
    option_and_then (λ definition.
    option_and_then (λ store.
    option_map (λ revision. record { name = name; definition = definition; store = store; revision = revision })
    (text_at tx_id r)) (text_at store_column r)) (text_at definition_column r)) (only_text r.key.partition)
