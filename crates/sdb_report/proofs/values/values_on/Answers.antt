use Rattle.std.proofs.Common.{sym, ap, ◌∙◌, Some, length}
use Rattle.sdb_report.specs.FieldReading.{next_value_at}
use Rattle.sdb_report.proofs.Lists.{many_more, many_ends, many_out}
use Rattle.sdb_report.proofs.values.values_on.Goals as goal

pub loop-preserved : goal.loop-preserved
loop-preserved c =
    rw c.in_ok-push-in-Ok.ensures.ok (sym (many_more next_value_at (length c.args.bytes.now) c.loop.counter c.loop.values c.loop.rest.now c.in-Ok.value c.in-Ok.more.now c.loop-test.true c.in-Ok.ensures) ∙ c.loop.invariant)

pub returns-in-Err-Bad : goal.returns-in-Err-Bad
returns-in-Err-Bad c =
    ap Some (sym c.loop.invariant ∙ many_ends next_value_at (length c.args.bytes.now) c.loop.counter c.loop.values c.loop.rest.now c.loop-test.true (rw c.in-Err-Bad.field-0-is at c.in-Err-Bad.ensures))

pub returns : goal.returns
returns c = ap Some (sym c.loop.invariant ∙ many_out next_value_at (length c.args.bytes.now) c.loop.counter c.loop.values c.loop.rest.now c.loop-test.false)
