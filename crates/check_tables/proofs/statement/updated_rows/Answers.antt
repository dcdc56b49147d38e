use Rattle.sdb_model.specs.Exec.{updated}
use Rattle.check_tables.proofs.RowSteps.{map_step}
use Rattle.check_tables.proofs.statement.updated_rows.Goals as goal

pub loop-row-preserved : goal.loop-row-preserved
loop-row-preserved c =
    let next = map_step (updated c.args.table.now c.args.update.now) c.args.rows.now c.loop-row.row-index c.row-item.result c.in_ok-updated_row.field-0 c.loop-row.found c.loop-row-test.true c.row-item.is c.in_ok-updated_row.ensures c.loop-row.invariant in
    cc (next, c.in_ok-push.ensures.ok)
