use Rattle.sdb_shell.specs.Turns.{HaveEnded, HaveLoaded, point}
use Rattle.sdb_shell.proofs.GroupSteps.{group_ends}
use Rattle.sdb_shell.proofs.Points.{map_ok}
use Rattle.sdb_shell.proofs.group.load_group.Goals as goal

pub returns-clause-loaded : goal.returns-clause-loaded
returns-clause-loaded g c =
    let p = point g.C.Clock.answered g.I.Ids.answered c.args.stores.now c.args.clock.now c.args.ids.now c.args.session.now in
    let q = point g.C.Clock.answered g.I.Ids.answered c.take_rows.new.stores c.take_rows.new.clock c.take_rows.new.ids c.take_rows.new.session in
    let r = point g.C.Clock.answered g.I.Ids.answered c.end_rows.new.stores c.end_rows.new.clock c.end_rows.new.ids c.end_rows.new.session in
    map_ok (HaveEnded g.S.Registry.state c.args.catalog.now c.in_ok-accepted.accepted q r) (HaveLoaded g.S.Registry.state c.args.catalog.now c.args.load.now c.args.rows.now p r) c.end_rows.result
    (λ ending ended. group_ends g.S.Registry.state c.args.catalog.now c.args.load.now c.args.rows.now p q r c.in_ok-accepted.accepted.written c.in_ok-accepted.accepted.bad ending c.in_ok-accepted.ensures.accepted ended c.end_rows.ensures.goes)
    c.end_rows.ensures.ended
