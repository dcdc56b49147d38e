use Rattle.sdb_snapshot.proofs.Filled.{ArePlaced}
use Rattle.sdb_snapshot.proofs.key_map.places_of.Given as goal

abbrev pub invariant-loop-entry : goal.invariant-loop-entry
invariant-loop-entry g l = ArePlaced l.entries l.entry-index l.places
