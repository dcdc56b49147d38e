use Rattle.std.proofs.Common.{None}
use Rattle.std.proofs.lemmas.Result.{err_from_is_err_and}
use Rattle.sdb_codec.specs.Reading.{items_at, pair_at}
use Rattle.sdb_codec.proofs.Loops.{goes_on, ends, is_done}
use Rattle.sdb_codec.proofs.columns.pairs_after.Goals as goal

pub returns-in_err-pair : goal.returns-in_err-pair
returns-in_err-pair c =
    let p = err_from_is_err_and c.from_residual.result c.from_residual.ensures.1 in
    rw (p.1, p.2) (ends pair_at c.loop.pairs c.args.count c.loop.counter c.loop.rest.now (items_at pair_at None c.args.count c.args.bytes.now) c.in_err-pair.field-0.0 c.loop-test.true (rw c.last.ensures.value at c.in_err-pair.ensures) c.loop.invariant)

pub loop-preserved : goal.loop-preserved
loop-preserved c = rw c.in_ok-push.ensures.ok (goes_on pair_at c.loop.pairs c.args.count c.loop.counter c.loop.rest.now (items_at pair_at None c.args.count c.args.bytes.now) c.in_ok-pair.pair c.in_ok-pair.after.now c.loop-test.true (rw c.last.ensures.value at c.in_ok-pair.ensures) c.loop.invariant)

pub returns : goal.returns
returns c = is_done pair_at c.loop.pairs c.args.count c.loop.counter c.loop.rest.now (items_at pair_at None c.args.count c.args.bytes.now) c.loop-test.false c.loop.invariant
