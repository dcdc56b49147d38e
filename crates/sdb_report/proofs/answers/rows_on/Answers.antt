use Rattle.std.proofs.Common.{sym, ◌∙◌}
use Rattle.std.proofs.lemmas.Result.{err_from_is_err_and}
use Rattle.sdb_report.specs.FieldReading.{row_at}
use Rattle.sdb_report.specs.Lines.{behind_space}
use Rattle.sdb_report.proofs.Lists.{counted_more, counted_bad, counted_out}
use Rattle.sdb_report.proofs.answers.rows_on.Goals as goal

pub returns-in_err-row : goal.returns-in_err-row
returns-in_err-row c =
    let p = err_from_is_err_and c.from_residual.result c.from_residual.ensures.1 in
    rw (p.1, p.2, ← c.loop.invariant) (counted_bad (behind_space row_at) c.args.count c.loop.counter c.loop.rows c.loop.rest.now _ c.loop-test.true c.in_err-row.ensures)

pub loop-preserved : goal.loop-preserved
loop-preserved c =
    rw c.in_ok-push.ensures.ok (sym (counted_more (behind_space row_at) c.args.count c.loop.counter c.loop.rows c.loop.rest.now c.in_ok-row.row c.in_ok-row.more.now c.loop-test.true c.in_ok-row.ensures) ∙ c.loop.invariant)

pub returns : goal.returns
returns c = sym c.loop.invariant ∙ counted_out (behind_space row_at) c.args.count c.loop.counter c.loop.rows c.loop.rest.now c.loop-test.false
