-- The home of a partition: the box that holds it.
use Rattle.std.specs.Prelude.{◌≡◌, ℕ, ◌<◌, ◌%◌, ◌^◌, Bool, true, ◌&&◌, nat_lt, if◌then◌else◌, List, [], length, Option, Some, unwrap_or, sum}
use Rattle.std.specs.List.{list_all}
use Rattle.std.specs.BTreeMap.{BTreeMap, get}
use Rattle.sdb_types.specs.declared.key.Key.{Key}
use Rattle.sdb_types.specs.declared.key.TableName.{TableName}
use Rattle.sdb_types.specs.declared.record.Span.{Span}
use Rattle.sdb_types.specs.declared.value.Value.{Value}
use Rattle.sdb_types.specs.declared.value.Value.TheVariants as value
use Rattle.sdb_types.specs.Order.{key_cmp}
use Rattle.sdb_codec.specs.Spelling.{key_bytes}

-- a partition by the key that has its table and values, and no clustering values
abbrev pub partition_key : TableName → List Value → Key
partition_key table partition = record { table = table; partition = partition; clustering = [] }

-- the partition of a key
abbrev pub partition_of : Key → Key
partition_of key = partition_key key.table key.partition

-- the span of a partition that is given by its key
abbrev pub span_of : Key → Span
span_of key = record { table = key.table; partition = Some key.partition }

---- whether each count and length of a key fits its field

abbrev pub value_fits : Value → Bool
value_fits value.Null = true
value_fits (value.Bool b) = true
value_fits (value.Int n) = true
value_fits (value.BigInt n) = true
value_fits (value.Text text) = nat_lt (length text) (2 ^ 32)
value_fits (value.Blob bytes) = nat_lt (length bytes) (2 ^ 32)

abbrev pub values_fit : List Value → Bool
values_fit values = nat_lt (length values) 256 && list_all value_fits values

abbrev pub key_fits : Key → Bool
key_fits key = values_fit key.partition && values_fit key.clustering

---- homes

-- the number of a partition: the sum of the bytes of its written key, or 0 where a count or length of it doesn't fit
abbrev pub number_of : Key → ℕ
number_of key = if key_fits key then sum (key_bytes key) else 0

-- the home of a partition: the box that a move gave it, or else its number modulo the number of boxes
abbrev pub home_at : (Key → Option ℕ) → ℕ → Key → ℕ
home_at moved boxes partition = unwrap_or (moved partition) (number_of partition % boxes)

-- the home of a record, which is that of its partition
abbrev pub home_of : (Key → Option ℕ) → ℕ → Key → ℕ
home_of moved boxes key = home_at moved boxes (partition_of key)

-- There are from 1 to 2^32 - 1 boxes, and each move gave one of them.
pub record AreHomes (boxes : ℕ) (moved : BTreeMap Key ℕ) : Type 0 where
  pub some : 0 < boxes
  pub few : boxes < 2 ^ 32
  pub inside : (partition : Key) (at : ℕ) → get key_cmp moved partition ≡ Some at → at < boxes
