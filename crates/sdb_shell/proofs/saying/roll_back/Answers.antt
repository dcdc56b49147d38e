use Rattle.std.proofs.Common.{sym, ◌∙◌}
use Rattle.sdb_shell.specs.Turns.{point}
use Rattle.sdb_shell.proofs.GroupSteps.{rolled_none, rolled_one}
use Rattle.sdb_shell.proofs.saying.roll_back.Goals as goal

pub returns-in_ok-say-clause-rolled_back : goal.returns-in_ok-say-clause-rolled_back
returns-in_ok-say-clause-rolled_back g c =
    rolled_one g.S.Registry.state c.args.catalog.now (point g.C.Clock.answered g.I.Ids.answered c.args.stores.now c.args.clock.now c.args.ids.now c.args.session.now) (point g.C.Clock.answered g.I.Ids.answered c.say.new.stores c.say.new.clock c.say.new.ids c.say.new.session)
    c.in_ok-say.field-0 (sym c.is_open.ensures ∙ c.if-is_open.true) c.in_ok-say.ensures.answered c.say.ensures.goes

pub returns-else-is_open-clause-rolled_back : goal.returns-else-is_open-clause-rolled_back
returns-else-is_open-clause-rolled_back g c =
    rolled_none g.S.Registry.state c.args.catalog.now (point g.C.Clock.answered g.I.Ids.answered c.args.stores.now c.args.clock.now c.args.ids.now c.args.session.now) (sym c.is_open.ensures ∙ c.if-is_open.false)
