use Rattle.std.proofs.Common.{◌≡◌, take}
use Rattle.sdb_model.specs.Rows.{order_names}
use Rattle.check_tables.proofs.access.names_of.Given as goal

abbrev pub invariant-loop-order : goal.invariant-loop-order
invariant-loop-order l = l.names ≡ order_names (take l.order-index l.orders)
