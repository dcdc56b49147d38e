use Rattle.sdb_types.specs.Order.{has_key}
use Rattle.sdb_shards.specs.Boxes.{contents_at}
use Rattle.sdb_shards.specs.Moves.{ChangesOnly, Shrinks, keys_of}
use Rattle.sdb_shards.proofs.Copies.{AreGone}
use Rattle.sdb_shards.proofs.moves.clear.Given as goal

abbrev pub invariant-loop-rec : goal.invariant-loop-rec
invariant-loop-rec l = record {
  changes : ChangesOnly (has_key (keys_of l.rows)) l.at l.fn.boxes l.boxes;
  shrinks : Shrinks (contents_at l.fn.boxes l.at) (contents_at l.boxes l.at);
  gone : AreGone l.rows l.rec-index (contents_at l.fn.boxes l.at) (contents_at l.boxes l.at);
}
