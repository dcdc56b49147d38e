use Rattle.std.proofs.Common.{rules}
use Rattle.std.proofs.lemmas.List.Sorted.{IsPartitionPoint-from_clause}
use Rattle.sdb_types.specs.Columns.{is_below}
use Rattle.sdb_types.proofs.ColumnLemmas.{columns_parted, parted-place}
use Rattle.sdb_types.proofs.columns.place_of.Goals as goal

pub returns : goal.returns
returns c =
    parted-place c.args.name.now c.args.pairs.now c.partition_point.result c.partition_point.ensures.bound (IsPartitionPoint-from_clause (is_below c.args.name.now) c.args.pairs.now c.partition_point.result c.partition_point.ensures.partitioned (columns_parted c.args.name.now c.args.pairs.now c.requires) (λ a r f q. search rules))
