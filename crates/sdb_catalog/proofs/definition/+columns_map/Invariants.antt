use Rattle.std.proofs.Common.{length}
use Rattle.sdb_catalog.proofs.definition.+columns_map.Given as goal

abbrev pub decreases-columns_map : goal.decreases-columns_map
decreases-columns_map l = length l.columns.now
