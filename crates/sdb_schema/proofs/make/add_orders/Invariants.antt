use Rattle.std.proofs.Common.{◌≡◌, ◌++◌, take}
use Rattle.sdb_schema.specs.Table.{order_names}
use Rattle.sdb_schema.proofs.make.add_orders.Given as goal

abbrev pub invariant-loop-order : goal.invariant-loop-order
invariant-loop-order l = l.names ≡ l.initial.names ++ order_names (take l.order-index l.orders)
