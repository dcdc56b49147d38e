use Rattle.sdb_shards.proofs.Copies.{one_more}
use Rattle.sdb_shards.proofs.moves.sweep.Goals as goal

pub loop-rec-preserved : goal.loop-rec-preserved
loop-rec-preserved c =
    one_more c.args.rows.now c.loop-rec.rec-index c.args.at c.rec-item.result c.args.boxes.now c.loop-rec.boxes c.delete-replied.new.boxes c.loop-rec-test.true c.rec-item.is c.loop-rec.invariant c.delete-replied.ensures.changes
