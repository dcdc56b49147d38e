use Rattle.std.proofs.Common.{sym, ◌∙◌}
use Rattle.sdb_contents.proofs.Public.{goes_more}
use Rattle.sdb_shell.specs.Turns.{HasLoaded, HaveLoaded, point}
use Rattle.sdb_shell.proofs.GroupSteps.{group_begun, group_not_begun}
use Rattle.sdb_shell.proofs.Points.{map_ok}
use Rattle.sdb_shell.proofs.group.take_group.Goals as goal

pub returns-then-is_done-clause-loaded : goal.returns-then-is_done-clause-loaded
returns-then-is_done-clause-loaded g c =
    let p = point g.C.Clock.answered g.I.Ids.answered c.args.stores.now c.args.clock.now c.args.ids.now c.args.session.now in
    let q = point g.C.Clock.answered g.I.Ids.answered c.say.new.stores c.say.new.clock c.say.new.ids c.say.new.session in
    let r = point g.C.Clock.answered g.I.Ids.answered c.load_group.new.stores c.load_group.new.clock c.load_group.new.ids c.load_group.new.session in
    map_ok (HaveLoaded g.S.Registry.state c.args.catalog.now c.args.load.now c.args.rows.now q r) (HasLoaded g.S.Registry.state c.args.catalog.now c.args.load.now c.args.rows.now p r) c.load_group.result
    (λ ending loaded. group_begun g.S.Registry.state c.args.catalog.now c.args.load.now c.args.rows.now p q r c.in_ok-answer.answer ending c.in_ok-answer.ensures.answered c.say.ensures.goes (sym c.is_done.ensures ∙ c.if-is_done.true) loaded)
    c.load_group.ensures.loaded

pub returns-then-is_done-clause-goes : goal.returns-then-is_done-clause-goes
returns-then-is_done-clause-goes g c = goes_more _ _ _ c.say.ensures.goes c.load_group.ensures.goes

pub returns-clause-loaded : goal.returns-clause-loaded
returns-clause-loaded g c =
    let p = point g.C.Clock.answered g.I.Ids.answered c.args.stores.now c.args.clock.now c.args.ids.now c.args.session.now in
    let q = point g.C.Clock.answered g.I.Ids.answered c.say.new.stores c.say.new.clock c.say.new.ids c.say.new.session in
    let r = point g.C.Clock.answered g.I.Ids.answered c.roll_back.new.stores c.roll_back.new.clock c.roll_back.new.ids c.roll_back.new.session in
    group_not_begun g.S.Registry.state c.args.catalog.now c.args.load.now c.args.rows.now p q r c.in_ok-answer.answer c.in_ok-answer.ensures.answered c.say.ensures.goes (sym c.is_done.ensures ∙ c.if-is_done.false) c.in_ok-roll_back.ensures.rolled_back

pub returns-clause-goes : goal.returns-clause-goes
returns-clause-goes g c = goes_more _ _ _ c.say.ensures.goes c.roll_back.ensures.goes
