use Rattle.sdb_shards.specs.Boxes.{contents_at}
use Rattle.sdb_shards.proofs.Copies.{copied_all, copied_more, one_more}
use Rattle.sdb_shards.proofs.moves.copy.Goals as goal

pub loop-rec-preserved : goal.loop-rec-preserved
loop-rec-preserved c = record {
  changes = one_more c.args.rows.now c.loop-rec.rec-index c.args.at c.rec-item.result c.args.boxes.now c.loop-rec.boxes c.put.new.boxes c.loop-rec-test.true c.rec-item.is c.loop-rec.invariant.changes c.put.ensures.changes;
  copied = copied_more c.args.rows.now c.loop-rec.rec-index c.rec-item.result (contents_at c.args.boxes.now c.args.at) (contents_at c.loop-rec.boxes c.args.at) (contents_at c.put.new.boxes c.args.at) c.loop-rec-test.true c.rec-item.is
      c.in_ok-put.ensures.put c.loop-rec.invariant.copied;
}

pub returns-in_err-put-clause-changes : goal.returns-in_err-put-clause-changes
returns-in_err-put-clause-changes c =
    one_more c.args.rows.now c.loop-rec.rec-index c.args.at c.rec-item.result c.args.boxes.now c.loop-rec.boxes c.put.new.boxes c.loop-rec-test.true c.rec-item.is c.loop-rec.invariant.changes c.put.ensures.changes

pub returns-clause-copied : goal.returns-clause-copied
returns-clause-copied c = copied_all c.args.rows.now c.loop-rec.rec-index (contents_at c.args.boxes.now c.args.at) (contents_at c.loop-rec.boxes c.args.at) c.loop-rec-test.false c.loop-rec.invariant.copied
