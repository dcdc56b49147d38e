-- What the rows of the table mean.
use Rattle.std.specs.Prelude.{◌≡◌, ℕ, ℤ, Bool, if◌then◌else◌, List, [], ◌∷◌, map, filter, Option, Some, None, Result, Ok, Err}
use Rattle.std.specs.Ordering.{is_eq}
use Rattle.std.specs.FinMap.{from_entries}
use Rattle.sdb_sqlite.specs.Types.{Key, Pair, Record, Value}
use Rattle.sqlite.specs.declared.types.Value.TheVariants.{Null, Int, Real, Text, Blob}
use Rattle.sqlite.specs.Order.{Row, column, bytes}
use Rattle.sdb_types.specs.Order.{key_cmp, table_text}
use Rattle.sdb_types.specs.Contents.{Contents}
use Rattle.sdb_types.specs.Fits.{key_fits}
use Rattle.sdb_codec.specs.Spelling.{key_bytes, KeyIsEncodable}
use Rattle.sdb_codec.specs.Reading.{key_in, record_in}
use Rattle.sdb_sqlite.specs.Spans.{partition_key}

-- the bytes of a blob
abbrev pub blob_of : Value → Option (List ℕ)
blob_of Null = None
blob_of (Int n) = None
blob_of (Real x) = None
blob_of (Text t) = None
blob_of (Blob b) = Some b

---- a body

abbrev pub own_columns : Key → Result Record ℕ → List Pair
own_columns key (Ok r) = if is_eq (key_cmp r.key key) then r.columns else []
own_columns key (Err place) = []

-- The record of a key that has a body: its columns are those that the body spells, where it spells a record of that key, and
-- else none.
abbrev pub record_of_body : Key → List ℕ → Record
record_of_body key body = record { key = key; columns = own_columns key (record_in body) }

---- a row of the table: its id, the bytes of a key, the table's name, the bytes of the partition's key, and the body

abbrev pub stored : ℤ → List ℕ → List ℕ → List ℕ → List ℕ → Row
stored id k t p r = Int id ∷ Blob k ∷ Text t ∷ Blob p ∷ Blob r ∷ []

-- The row is one that the store writes: it has a key that its bytes spell, the table and the partition of that key, and any
-- body.
pub record IsRowOfStore (row : Row) : Type 0 where
  pub id : ℤ
  pub key : Key
  pub body : List ℕ
  pub known : key_fits key
  pub fits : KeyIsEncodable key
  pub is : row ≡ stored id (key_bytes key) (table_text key.table) (key_bytes (partition_key key.table key.partition)) body

-- the key that bytes spell, or one of no table where they spell none
abbrev pub key_or_none : Result Key ℕ → Key
key_or_none (Ok key) = key
key_or_none (Err place) = record { table = record { ns = []; table = [] }; partition = []; clustering = [] }

abbrev pub row_key : Row → Key
row_key row = key_or_none (key_in (bytes (column row 1)))

abbrev pub entry_of : Row → Key × List Pair
entry_of row = (row_key row, own_columns (row_key row) (record_in (bytes (column row 4))))

-- what the rows hold
abbrev pub contents_of_rows : List Row → Contents
contents_of_rows rows = from_entries (map entry_of rows)

abbrev pub has_key : Key → Row → Bool
has_key key row = is_eq (key_cmp key (row_key row))

-- the rows of a key
abbrev pub rows_at : Key → List Row → List Row
rows_at key rows = filter (has_key key) rows

---- a row of a scan's answer: the bytes of a key, and the body

-- the record that it means
abbrev pub record_of_row : Row → Record
record_of_row row = record_of_body (key_or_none (key_in (bytes (column row 0)))) (bytes (column row 1))
