use Rattle.sdb_model.specs.declared.token.Keyword.TheVariants as word
use Rattle.sdb_sqltext.specs.Readers.{test_at, next_word}
use Rattle.sdb_sqltext.proofs.Turns.{one_more}
use Rattle.sdb_sqltext.proofs.lists.tests_on.Goals as goal

pub loop-preserved : goal.loop-preserved
loop-preserved c =
    rw c.in_ok-push-in-Ok.ensures.ok
    (one_more test_at (next_word word.And) c.args.end c.args.turns c.loop.counter c.loop.tests c.loop.rest.now c.in-Some.more.now c.in-Ok.test c.in-Ok.behind.now _ c.loop-test.true c.in-Some.ensures c.in-Ok.ensures c.loop.invariant)
