-- The keys of a span have the parts that the span names.
use Rattle.std.proofs.Common.{◌≡◌, true, List, Option, Some, None, sym, subst, option_map, Bor}
use Rattle.std.specs.Prelude.{IfSome}
use Rattle.std.specs.Ordering.{is_eq}
use Rattle.std.specs.Cmp.Lexicographic.{slice_cmp}
use Rattle.std.specs.FinMap.{slice_cmp-IsAntisymmetric}
use Rattle.sdb_hashed.specs.Types.{Key, Span, Value}
use Rattle.sdb_types.specs.Order.{table_cmp, value_cmp}
use Rattle.sdb_types.specs.Exact.{equal_of}
use Rattle.sdb_types.specs.ValueLaws.{value_exact}
use Rattle.sdb_types.specs.Contents.{in_span, is_partition}
use Rattle.sdb_types.proofs.Public.{and_first, and_second, table_exact}

pub table_inside : (span : Span) (key : Key) → in_span span key ≡ true → key.table ≡ span.table
table_inside span key h =
    sym (table_exact span.table key.table (equal_of (table_cmp span.table key.table) (and_first (is_eq (table_cmp span.table key.table)) (is_partition span.partition key) h)))

pub partition_inside : (span : Span) (x : List Value) → Some x ≡ span.partition → (key : Key) → in_span span key ≡ true → key.partition ≡ x
partition_inside span x named key h =
    let inside : is_partition (Some x) key ≡ true = subst (λ (o : Option (List Value)). is_partition o key ≡ true) (sym named) (and_second (is_eq (table_cmp span.table key.table)) (is_partition span.partition key) h) in
    sym (slice_cmp-IsAntisymmetric value_exact x key.partition (equal_of (slice_cmp value_cmp x key.partition) inside))

pub named_inside : (span : Span) (o : Option (Bor (List Value))) → option_map (λ x. x.now) o ≡ span.partition → IfSome o (λ name. (key : Key) → in_span span key ≡ true → key.partition ≡ name.now)
named_inside span None h = tt
named_inside span (Some name) h = partition_inside span name.now h
