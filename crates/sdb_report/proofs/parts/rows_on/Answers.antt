use Rattle.std.proofs.Common.{[]}
use Rattle.std.proofs.lemmas.Result.{err_from_is_err_and}
use Rattle.sdb_report.specs.Reading.{lines_at, row_line_at}
use Rattle.sdb_report.proofs.Loops.{goes_on, ends, is_done}
use Rattle.sdb_report.proofs.parts.rows_on.Goals as goal

pub returns-in_err-row : goal.returns-in_err-row
returns-in_err-row c =
    let p = err_from_is_err_and c.from_residual.result c.from_residual.ensures.1 in
    rw (p.1, p.2) (ends row_line_at c.loop.rows c.args.count c.loop.counter c.loop.rest.now (lines_at row_line_at [] c.args.count c.args.bytes.now) c.in_err-row.field-0.0 c.loop-test.true c.in_err-row.ensures c.loop.invariant)

pub loop-preserved : goal.loop-preserved
loop-preserved c = rw c.in_ok-push.ensures.ok (goes_on row_line_at c.loop.rows c.args.count c.loop.counter c.loop.rest.now (lines_at row_line_at [] c.args.count c.args.bytes.now) c.in_ok-row.row c.in_ok-row.more.now c.loop-test.true c.in_ok-row.ensures c.loop.invariant)

pub returns : goal.returns
returns c = is_done row_line_at c.loop.rows c.args.count c.loop.counter c.loop.rest.now (lines_at row_line_at [] c.args.count c.args.bytes.now) c.loop-test.false c.loop.invariant
