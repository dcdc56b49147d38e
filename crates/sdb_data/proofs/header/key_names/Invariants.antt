use Rattle.std.proofs.Common.{◌≡◌, ◌++◌, take}
use Rattle.sdb_schema.specs.Table.{order_names}
use Rattle.sdb_data.proofs.header.key_names.Given as goal

abbrev pub invariant-loop-order : goal.invariant-loop-order
invariant-loop-order l = l.names ≡ l.table.partition ++ order_names (take l.order-index l.table.clustering)
