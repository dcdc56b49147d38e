-- The places of spans, by table and then by partition.
use Rattle.std.specs.Prelude.{ℕ, List, Option, Some, None}
use Rattle.sdb_snapshot.specs.Types.{Ordering, Span, TableName, Value}
use Rattle.std.specs.BTreeMap.{BTreeMap, get}
use Rattle.std.specs.Cmp.Lexicographic.{slice_cmp}
use Rattle.std.specs.Option.{option_cmp}
use Rattle.sdb_types.specs.Order.{table_cmp, value_cmp}

-- the order of the partitions that spans name, the whole table first
abbrev pub partition_cmp : Option (List Value) → Option (List Value) → Ordering
partition_cmp = option_cmp (slice_cmp value_cmp)

-- the place of a partition, which has none where its table has none
abbrev pub place_in_table : Option (BTreeMap (Option (List Value)) ℕ) → Option (List Value) → Option ℕ
place_in_table None p = None
place_in_table (Some parts) p = get partition_cmp parts p

-- the place of a span
abbrev pub place_in_tables : BTreeMap TableName (BTreeMap (Option (List Value)) ℕ) → Span → Option ℕ
place_in_tables tables span = place_in_table (get table_cmp tables span.table) span.partition
