use Rattle.std.proofs.Common.{None}
use Rattle.std.proofs.lemmas.Result.{err_from_is_err_and}
use Rattle.sdb_codec.specs.Reading.{items_at, value_at}
use Rattle.sdb_codec.proofs.Loops.{goes_on, ends, is_done}
use Rattle.sdb_codec.proofs.fields.values_after.Goals as goal

pub returns-in_err-value : goal.returns-in_err-value
returns-in_err-value c =
    let p = err_from_is_err_and c.from_residual.result c.from_residual.ensures.1 in
    rw (p.1, p.2) (ends (λ before rest. value_at rest) c.loop.values c.args.count c.loop.counter c.loop.rest.now (items_at (λ before rest. value_at rest) None c.args.count c.args.bytes.now) c.in_err-value.field-0.0 c.loop-test.true c.in_err-value.ensures c.loop.invariant)

pub loop-preserved : goal.loop-preserved
loop-preserved c = rw c.in_ok-push.ensures.ok (goes_on (λ before rest. value_at rest) c.loop.values c.args.count c.loop.counter c.loop.rest.now (items_at (λ before rest. value_at rest) None c.args.count c.args.bytes.now) c.in_ok-value.value c.in_ok-value.after.now c.loop-test.true c.in_ok-value.ensures c.loop.invariant)

pub returns : goal.returns
returns c = is_done (λ before rest. value_at rest) c.loop.values c.args.count c.loop.counter c.loop.rest.now (items_at (λ before rest. value_at rest) None c.args.count c.args.bytes.now) c.loop-test.false c.loop.invariant
