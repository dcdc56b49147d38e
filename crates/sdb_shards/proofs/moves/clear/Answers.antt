use Rattle.sdb_shards.specs.Boxes.{contents_at}
use Rattle.sdb_shards.proofs.Copies.{gone_more, one_more, shrunk_then}
use Rattle.sdb_shards.proofs.moves.clear.Goals as goal

pub loop-rec-preserved : goal.loop-rec-preserved
loop-rec-preserved c = record {
  changes = one_more c.args.rows.now c.loop-rec.rec-index c.args.at c.rec-item.result c.args.boxes.now c.loop-rec.boxes c.delete.new.boxes c.loop-rec-test.true c.rec-item.is c.loop-rec.invariant.changes c.delete.ensures.changes;
  shrinks = shrunk_then (contents_at c.args.boxes.now c.args.at) (contents_at c.loop-rec.boxes c.args.at) (contents_at c.delete.new.boxes c.args.at) c.loop-rec.invariant.shrinks c.delete.ensures.shrinks;
  gone = gone_more c.args.rows.now c.loop-rec.rec-index c.rec-item.result (contents_at c.args.boxes.now c.args.at) (contents_at c.loop-rec.boxes c.args.at) (contents_at c.delete.new.boxes c.args.at) c.loop-rec-test.true c.rec-item.is
      c.loop-rec.invariant.shrinks c.delete.ensures.shrinks c.loop-rec.invariant.gone c.in_ok-delete.ensures.gone;
}

pub returns-in_err-delete-clause-changes : goal.returns-in_err-delete-clause-changes
returns-in_err-delete-clause-changes c =
    one_more c.args.rows.now c.loop-rec.rec-index c.args.at c.rec-item.result c.args.boxes.now c.loop-rec.boxes c.delete.new.boxes c.loop-rec-test.true c.rec-item.is c.loop-rec.invariant.changes c.delete.ensures.changes
