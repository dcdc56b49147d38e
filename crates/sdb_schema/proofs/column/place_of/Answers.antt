use Rattle.std.proofs.Common.{rules}
use Rattle.std.proofs.lemmas.List.Sorted.{IsPartitionPoint-from_clause}
use Rattle.sdb_schema.proofs.Sought.{is_below, parted, parted-place}
use Rattle.sdb_schema.proofs.column.place_of.Goals as goal

pub returns : goal.returns
returns c =
    parted-place c.args.name.now c.args.columns.now c.partition_point.result c.partition_point.ensures.bound (IsPartitionPoint-from_clause (is_below c.args.name.now) c.args.columns.now c.partition_point.result c.partition_point.ensures.partitioned (parted c.args.name.now c.args.columns.now c.requires) (λ a r f q. search rules))
