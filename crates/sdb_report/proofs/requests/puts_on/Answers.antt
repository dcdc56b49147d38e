use Rattle.std.proofs.Common.{sym, ◌∙◌}
use Rattle.std.proofs.lemmas.Result.{err_from_is_err_and}
use Rattle.sdb_report.specs.Lines.{behind_space, one_put_at}
use Rattle.sdb_report.proofs.Lists.{counted_more, counted_bad, counted_out}
use Rattle.sdb_report.proofs.requests.puts_on.Goals as goal

pub returns-in_err-there : goal.returns-in_err-there
returns-in_err-there c =
    let p = err_from_is_err_and c.from_residual.result c.from_residual.ensures.1 in
    rw (p.1, p.2, ← c.loop.invariant) (counted_bad (behind_space one_put_at) c.args.count c.loop.counter c.loop.puts c.loop.rest.now _ c.loop-test.true c.in_err-there.ensures)

pub loop-preserved : goal.loop-preserved
loop-preserved c =
    rw c.in_ok-push.ensures.ok (sym (counted_more (behind_space one_put_at) c.args.count c.loop.counter c.loop.puts c.loop.rest.now c.in_ok-there.there c.in_ok-there.more.now c.loop-test.true c.in_ok-there.ensures) ∙ c.loop.invariant)

pub returns : goal.returns
returns c = sym c.loop.invariant ∙ counted_out (behind_space one_put_at) c.args.count c.loop.counter c.loop.puts c.loop.rest.now c.loop-test.false
