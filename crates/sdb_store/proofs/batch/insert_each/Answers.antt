use Rattle.std.proofs.Common.{◌+◌, ap}
use Rattle.sdb_store.proofs.Batches.{put_more}
use Rattle.sdb_store.proofs.batch.insert_each.Goals as goal

pub loop-put-preserved : goal.loop-put-preserved
loop-put-preserved g c = (
  ap (λ n. n + 1) c.loop-put.invariant.0,
  put_more c.args.puts.now c.loop-put.put-index c.put-item.result (g.R.Rows.contents c.args.rows.now) (g.R.Rows.contents c.loop-put.rows) (g.R.Rows.contents c.insert_copy.new.rows) c.loop-put-test.true c.put-item.is c.loop-put.invariant.1 c.in-Ok.ensures.ok,
)
