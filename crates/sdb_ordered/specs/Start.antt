-- Where the records of a span begin.
use Rattle.std.specs.Prelude.{List, [], Option, Some, None}
use Rattle.sdb_types.specs.declared.key.Key.{Key}
use Rattle.sdb_types.specs.declared.value.Value.{Value}
use Rattle.sdb_types.specs.declared.record.Span.{Span}

abbrev pub partition_or_none : Option (List Value) → List Value
partition_or_none None = []
partition_or_none (Some part) = part

-- the least key of a span
abbrev pub span_start : Span → Key
span_start span = record { table = span.table; partition = partition_or_none span.partition; clustering = [] }
