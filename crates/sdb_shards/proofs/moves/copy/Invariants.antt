use Rattle.sdb_types.specs.Order.{has_key}
use Rattle.sdb_shards.specs.Boxes.{contents_at}
use Rattle.sdb_shards.specs.Moves.{ChangesOnly, keys_of}
use Rattle.sdb_shards.proofs.Copies.{HasCopied}
use Rattle.sdb_shards.proofs.moves.copy.Given as goal

abbrev pub invariant-loop-rec : goal.invariant-loop-rec
invariant-loop-rec l = record {
  changes : ChangesOnly (has_key (keys_of l.rows)) l.at l.fn.boxes l.boxes;
  copied : HasCopied l.rows l.rec-index (contents_at l.fn.boxes l.at) (contents_at l.boxes l.at);
}
