use Rattle.sdb_model.specs.declared.token.Sign.TheVariants as sign
use Rattle.sdb_sqltext.specs.Readers.{name_at, next_sign}
use Rattle.sdb_sqltext.proofs.Turns.{one_more}
use Rattle.sdb_sqltext.proofs.lists.names_on.Goals as goal

pub loop-preserved : goal.loop-preserved
loop-preserved c =
    rw c.in_ok-push-in-Ok.ensures.ok
    (one_more name_at (next_sign sign.Comma) c.args.end c.args.turns c.loop.counter c.loop.names c.loop.rest.now c.in-Some.more.now c.in-Ok.name c.in-Ok.behind.now _ c.loop-test.true c.in-Some.ensures c.in-Ok.ensures c.loop.invariant)
