use Rattle.std.proofs.Common.{rules, ◌≡◌, ◌+◌, List, Option, subst, sym, true}
use Rattle.sdb_types.specs.Contents.{holds}
use Rattle.sdb_types.specs.declared.record.Record.{Record}
use Rattle.sdb_store.proofs.Batches.{AreMet, met_more}
use Rattle.sdb_store.proofs.batch.check.Goals as goal

pub loop-put-preserved : goal.loop-put-preserved
loop-put-preserved g c =
    let m = g.R.Rows.contents c.args.rows.now in
    let met : holds c.put-item.result.condition c.in_ok-rec.rec ≡ true = search rules in
    subst (λ (xs : List (Option Record)). AreMet c.args.puts.now m (c.loop-put.put-index + 1) (c.loop-put.place + 1) xs) (sym c.in_ok-push.ensures.items)
    (met_more c.args.puts.now m c.loop-put.put-index c.loop-put.place c.loop-put.found.items c.put-item.result c.in_ok-rec.rec c.loop-put.invariant c.loop-put-test.true c.put-item.is c.in_ok-rec.ensures met)
