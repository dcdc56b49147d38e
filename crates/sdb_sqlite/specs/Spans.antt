-- The keys of spans and of partitions.
use Rattle.std.specs.Prelude.{◌≡◌, [], All, IfSome, List, Option, Some, None, true}
use Rattle.sdb_sqlite.specs.Types.{Key, Span, TableName}
use Rattle.sdb_types.specs.declared.value.Value.{Value}
use Rattle.sdb_types.specs.Identifier.{is_name}
use Rattle.sdb_types.specs.Fits.{value_fits}
use Rattle.sdb_codec.specs.Spelling.{KeyIsEncodable}

-- the key of a partition: one without clustering values
abbrev pub partition_key : TableName → List Value → Key
partition_key table partition = record { table = table; partition = partition; clustering = [] }

-- the partition that a span names, if it names one, fits its fields
abbrev pub PartitionIsEncodable : TableName → Option (List Value) → Type 0
PartitionIsEncodable table None = Unit {0}
PartitionIsEncodable table (Some partition) = KeyIsEncodable (partition_key table partition)

abbrev pub SpanIsEncodable : Span → Type 0
SpanIsEncodable span = PartitionIsEncodable span.table span.partition

-- what is known of every name of a table
abbrev pub table_is_encodable : TableName → Type 0
table_is_encodable table = (is_name table.ns ≡ true) × (is_name table.table ≡ true)

-- what is known of every span
pub record span_is_encodable (span : Span) : Type 0 where
  pub table : table_is_encodable span.table
  pub partition : IfSome span.partition (All value_fits)
