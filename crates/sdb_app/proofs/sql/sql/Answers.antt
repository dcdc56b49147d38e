use Rattle.std.proofs.Common.{Err, ap, refl}
use Rattle.sdb_app.specs.Ends.{ends, stream, views}
use Rattle.sdb_app.specs.Sql.HasEndedSession.{Cut, Unopened, Whole}
use Rattle.sdb_app.proofs.Sessions.{cut_less, fault_of, whole_less}
use Rattle.sdb_app.proofs.sql.sql.Goals as goal

pub returns-in-Err-clause-ended : goal.returns-in-Err-clause-ended
returns-in-Err-clause-ended g c =
    Unopened c.in-Err.refused (record { refused = c.in-Err.ensures.err; bad = c.in-Err.ensures.bad; unchanged = c.open_catalog.ensures.unchanged; others = c.open_catalog.ensures.goes.others }) c.catalog_status.ensures refl refl

pub returns-in-Ok-session-clause-ended : goal.returns-in-Ok-session-clause-ended
returns-in-Ok-session-clause-ended g c =
    let mid = g.S.Registry.state c.open_catalog.new.stores in
    let last = g.S.Registry.state c.session.new.stores in
    let opens = c.open_catalog.ensures.goes in
    let sat = c.session.ensures.goes in
    Whole c.in-Ok.catalog mid.places mid.views
    (record { opened = record { entries = c.in-Ok.ensures.opened.entries; read = c.in-Ok.ensures.opened.read; tables = c.in-Ok.ensures.opened.tables; placed = c.in-Ok.ensures.opened.placed }; known = c.in-Ok.ensures.known; unchanged = c.open_catalog.ensures.unchanged; others = opens.others })
    (whole_less c.in-Ok.catalog mid last _ _ _ _ _ _ _ _ _ _ (record { places = refl; views = refl; where_known = opens.where_known }) (record { places = sat.places; views = refl; where_known = λ at answered. sat.where_known at (opens.where_known at answered) }) c.in-Ok-session.ensures.done)
    refl

pub returns-clause-ended : goal.returns-clause-ended
returns-clause-ended g c =
    let mid = g.S.Registry.state c.open_catalog.new.stores in
    let last = g.S.Registry.state c.session.new.stores in
    let opens = c.open_catalog.ensures.goes in
    let sat = c.session.ensures.goes in
    let run = ends (views g.S.Registry.state (stream g.R.Source.remaining g.R.Source.faults) (stream g.W.Sink.written g.W.Sink.faults) g.C.Clock.answered g.I.Ids.answered) c.args.stores.now c.session.new.stores c.args.input.now c.session.new.input c.args.output.now c.session.new.output c.args.clock.now c.session.new.clock c.args.ids.now c.session.new.ids in
    Cut c.in-Ok.catalog mid.places mid.views c.in-Err-session.refused
    (record { opened = record { entries = c.in-Ok.ensures.opened.entries; read = c.in-Ok.ensures.opened.read; tables = c.in-Ok.ensures.opened.tables; placed = c.in-Ok.ensures.opened.placed }; known = c.in-Ok.ensures.known; unchanged = c.open_catalog.ensures.unchanged; others = opens.others })
    (cut_less c.in-Ok.catalog mid last _ _ _ _ _ _ _ _ _ _ c.in-Err-session.refused (record { places = refl; views = refl; where_known = opens.where_known }) (record { places = sat.places; views = refl; where_known = λ at answered. sat.where_known at (opens.where_known at answered) }) c.in-Err-session.ensures.cut)
    (fault_of run c.in-Err-session.refused (λ is. c.in-Err-session.ensures.read_fault (ap Err is)) (λ is. c.in-Err-session.ensures.write_fault (ap Err is)))
    c.session_status.ensures
