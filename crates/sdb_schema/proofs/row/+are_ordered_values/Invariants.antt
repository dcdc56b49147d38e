use Rattle.std.proofs.Common.{length}
use Rattle.sdb_schema.proofs.row.+are_ordered_values.Given as goal

abbrev pub decreases-are_ordered_values : goal.decreases-are_ordered_values
decreases-are_ordered_values l = length l.orders.now
