use Rattle.std.proofs.Common.{◌≡◌, take, map}
use Rattle.sdb_model.specs.Rows.{order_names}
use Rattle.sdb_model.specs.Exec.{literal_in}
use Rattle.sdb_exec.proofs.change.ordered_literals_of.Given as goal

abbrev pub invariant-loop-order : goal.invariant-loop-order
invariant-loop-order l = l.values ≡ map (literal_in l.table l.insert) (order_names (take l.order-index l.orders))
