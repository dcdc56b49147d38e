use Rattle.std.proofs.Common.{◌≡◌, true, false, Bool}
use Rattle.std.specs.Prelude.{not}
use Rattle.sdb_record.specs.declared.access.Image.{Image}
use Rattle.check_tables.proofs.Filters.{filter_kept, filter_passed}
use Rattle.sdb_model.specs.Exec.{passes}
use Rattle.check_tables.proofs.statement.kept.Goals as goal
use Rattle.check_tables.proofs.statement.kept.Goals.{then-stays+in_ok-copy+in_ok-push, else-stays}

pub loop-row-preserved : goal.loop-row-preserved
loop-row-preserved c =
    let p : Image → Bool = λ r. not (passes c.args.table.now c.args.tests.now r) in
    elim c.if-stays.branch [
      | then-stays+in_ok-copy+in_ok-push w ↦
          let yes' : p c.row-item.result ≡ true = cc in
          let next = filter_kept p c.args.rows.now c.loop-row.row-index c.row-item.result c.loop-row.found c.loop-row-test.true c.row-item.is c.loop-row.invariant yes' in
          cc (next, w.in_ok-push.ensures.ok, w.in_ok-copy.ensures)
      | else-stays w ↦
          let not' : p c.row-item.result ≡ false = cc in
          let next = filter_passed p c.args.rows.now c.loop-row.row-index c.row-item.result c.loop-row.found c.loop-row-test.true c.row-item.is c.loop-row.invariant not' in
          cc next
    ]
