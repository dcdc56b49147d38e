-- The one spelling of each record and key in bytes. Numbers are big-endian.
use Rattle.std.specs.Prelude.{ℕ, ◌<◌, ◌^◌, true, false, List, [], ◌∷◌, ◌++◌, length, All}
use Rattle.std.specs.List.{flat_map}
use Rattle.std.specs.Int.{w16, w32, w64, to_be_bytes, cast_unsigned}
use Rattle.sdb_codec.specs.Types.{Key, Pair, Record, Value}
use Rattle.sdb_types.specs.declared.value.Value.TheVariants as value
use Rattle.sdb_types.specs.Order.{table_text}

-- four bytes of length, and that many bytes
abbrev pub sized_bytes : List ℕ → List ℕ
sized_bytes bytes = to_be_bytes w32 (length bytes) ++ bytes

-- a byte for the kind; then 0 or 1, the number in two's complement, or a length and bytes
abbrev pub value_bytes : Value → List ℕ
value_bytes value.Null = 0 ∷ []
value_bytes (value.Bool false) = 1 ∷ 0 ∷ []
value_bytes (value.Bool true) = 1 ∷ 1 ∷ []
value_bytes (value.Int n) = 2 ∷ to_be_bytes w32 (cast_unsigned w32 n)
value_bytes (value.BigInt n) = 3 ∷ to_be_bytes w64 (cast_unsigned w64 n)
value_bytes (value.Text text) = 4 ∷ sized_bytes text
value_bytes (value.Blob bytes) = 5 ∷ sized_bytes bytes

-- one byte of count, and the values
abbrev pub values_bytes : List Value → List ℕ
values_bytes values = length values ∷ flat_map value_bytes values

-- the table's name as `ns.table`, the partition's values, and the clustering values
abbrev pub key_bytes : Key → List ℕ
key_bytes key = sized_bytes (table_text key.table) ++ values_bytes key.partition ++ values_bytes key.clustering

abbrev pub pair_bytes : Pair → List ℕ
pair_bytes p = sized_bytes p.name ++ value_bytes p.value

-- two bytes of count, and the name and value of each
abbrev pub columns_bytes : List Pair → List ℕ
columns_bytes pairs = to_be_bytes w16 (length pairs) ++ flat_map pair_bytes pairs

-- the format's number, the key and the columns
abbrev pub record_bytes : Record → List ℕ
record_bytes r = 1 ∷ (key_bytes r.key ++ columns_bytes r.columns)

---- what has a spelling: each count and length fits its field

abbrev pub ValueIsEncodable : Value → Type 0
ValueIsEncodable value.Null = Unit {0}
ValueIsEncodable (value.Bool b) = Unit {0}
ValueIsEncodable (value.Int n) = Unit {0}
ValueIsEncodable (value.BigInt n) = Unit {0}
ValueIsEncodable (value.Text text) = length text < 2 ^ 32
ValueIsEncodable (value.Blob bytes) = length bytes < 2 ^ 32

pub record ValuesAreEncodable (values : List Value) : Type 0 where
  pub count : length values < 256
  pub lengths : All ValueIsEncodable values

pub record KeyIsEncodable (key : Key) : Type 0 where
  pub partition : ValuesAreEncodable key.partition
  pub clustering : ValuesAreEncodable key.clustering

pub record ColumnsAreEncodable (pairs : List Pair) : Type 0 where
  pub count : length pairs < 2 ^ 16
  pub lengths : All (λ p. ValueIsEncodable p.value) pairs

pub record RecordIsEncodable (r : Record) : Type 0 where
  pub key : KeyIsEncodable r.key
  pub columns : ColumnsAreEncodable r.columns
