use Rattle.sdb_types.specs.Order.{has_key}
use Rattle.sdb_shards.specs.Moves.{ChangesOnly, keys_of}
use Rattle.sdb_shards.proofs.moves.sweep.Given as goal

abbrev pub invariant-loop-rec : goal.invariant-loop-rec
invariant-loop-rec l = ChangesOnly (has_key (keys_of l.rows)) l.at l.fn.boxes l.boxes
