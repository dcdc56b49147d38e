use Rattle.std.proofs.Common.{length}
use Rattle.sdb_schema.proofs.order.+compare_clustering.Given as goal

abbrev pub decreases-compare_clustering : goal.decreases-compare_clustering
decreases-compare_clustering l = length l.orders.now
