use Rattle.std.proofs.Common.{ℕ, List, inr, refl, sym, subst}
use Rattle.sdb_app.specs.Ends.{draws, stream, work_of}
use Rattle.sdb_app.specs.Load.{IsLoaded}
use Rattle.sdb_app.specs.Load.StopsLoad.{OutOfMemory, Unread, Untabled}
use Rattle.sdb_app.specs.Load.IsTableUnopened.{Unnamed, Unopened}
use Rattle.sdb_app.proofs.Loads.{loaded_on, starved_on}
use Rattle.sdb_shell.specs.Statements.{load_of, rows_after}
use Rattle.sdb_shell.proofs.Public.{starved_after}
use Rattle.sdb_app.proofs.Following.{err_then}
use Rattle.sdb_shell.proofs.Public.{map_ok}
use Rattle.sdb_app.proofs.load.load.Goals as goal

pub returns-in-Err-clause-err : goal.returns-in-Err-clause-err
returns-in-Err-clause-err g c =
    Untabled (Unopened c.in-Err.refused (record { refused = c.in-Err.ensures.err; bad = c.in-Err.ensures.bad; unchanged = c.open_catalog.ensures.unchanged; others = c.open_catalog.ensures.goes.others }) c.catalog_status.ensures) refl (record { clock = refl; ids = refl })

pub returns-in_default-clause-err : goal.returns-in_default-clause-err
returns-in_default-clause-err g c =
    let mid = g.S.Registry.state c.open_catalog.new.stores in
    Untabled (Unnamed c.in-Ok.catalog mid.places (record { opened = record { entries = c.in-Ok.ensures.opened.entries; read = c.in-Ok.ensures.opened.read; tables = c.in-Ok.ensures.opened.tables; placed = c.in-Ok.ensures.opened.placed }; known = c.in-Ok.ensures.known; unchanged = c.open_catalog.ensures.unchanged; others = c.open_catalog.ensures.goes.others }) (sym c.in_default.ensures) refl) refl (record { clock = refl; ids = refl })

pub returns-in-Err-read_rows-clause-err : goal.returns-in-Err-read_rows-clause-err
returns-in-Err-read_rows-clause-err g c =
    let mid = g.S.Registry.state c.open_catalog.new.stores in
    Unread c.in-Ok.catalog mid.places c.in-Some.table.now (record { opened = record { opened = record { entries = c.in-Ok.ensures.opened.entries; read = c.in-Ok.ensures.opened.read; tables = c.in-Ok.ensures.opened.tables; placed = c.in-Ok.ensures.opened.placed }; known = c.in-Ok.ensures.known; unchanged = c.open_catalog.ensures.unchanged; others = c.open_catalog.ensures.goes.others }; found = sym c.in-Some.ensures }) c.in-Err-read_rows.ensures.err (record { clock = refl; ids = refl })

pub returns-in-Ok-load_rows-clause-answered : goal.returns-in-Ok-load_rows-clause-answered
returns-in-Ok-load_rows-clause-answered g c =
    let mid = g.S.Registry.state c.open_catalog.new.stores in
    let last = g.S.Registry.state c.load_rows.new.stores in
    let opens = c.open_catalog.ensures.goes in
    let sat = c.load_rows.ensures.goes in
    let work = work_of g.S.Registry.state (stream g.R.Source.remaining g.R.Source.faults) c.args.stores.now c.load_rows.new.stores c.args.input.now c.read_rows.new.input in
    let d = draws g.C.Clock.answered g.I.Ids.answered c.args.clock.now c.load_rows.new.clock c.args.ids.now c.load_rows.new.ids in
    let loaded : IsLoaded c.args.name.now c.args.mode c.args.size work d c.in-Ok-load_rows.text = record {
      catalog = c.in-Ok.catalog;
      places = mid.places;
      mid = mid.views;
      table = c.in-Some.table.now;
      rows = c.in-Ok-read_rows.rows;
      opened = record { opened = record { opened = record { entries = c.in-Ok.ensures.opened.entries; read = c.in-Ok.ensures.opened.read; tables = c.in-Ok.ensures.opened.tables; placed = c.in-Ok.ensures.opened.placed }; known = c.in-Ok.ensures.known; unchanged = c.open_catalog.ensures.unchanged; others = c.open_catalog.ensures.goes.others }; found = sym c.in-Some.ensures };
      read = c.in-Ok-read_rows.ensures.read;
      loaded = loaded_on _ _ _ _ mid last _ _ _ _ _ _ _ (record { places = refl; views = refl; where_known = opens.where_known }) (record { places = sat.places; views = refl; where_known = λ at acked. sat.where_known at (opens.where_known at acked) }) c.in-Ok-load_rows.ensures.loaded;
    } in
    map_ok _ _ c.text_of.result (λ text is. subst (λ (xs : List ℕ). IsLoaded c.args.name.now c.args.mode c.args.size work d xs) (sym is) loaded) c.text_of.ensures.ok

pub returns-in-Ok-load_rows-clause-err : goal.returns-in-Ok-load_rows-clause-err
returns-in-Ok-load_rows-clause-err g c =
    let mid = g.S.Registry.state c.open_catalog.new.stores in
    let last = g.S.Registry.state c.load_rows.new.stores in
    let opens = c.open_catalog.ensures.goes in
    let sat = c.load_rows.ensures.goes in
    err_then _ _ c.text_of.result (λ s is. OutOfMemory c.in-Ok.catalog mid.places mid.views c.in-Some.table.now c.in-Ok-read_rows.rows (record { opened = record { opened = record { entries = c.in-Ok.ensures.opened.entries; read = c.in-Ok.ensures.opened.read; tables = c.in-Ok.ensures.opened.tables; placed = c.in-Ok.ensures.opened.placed }; known = c.in-Ok.ensures.known; unchanged = c.open_catalog.ensures.unchanged; others = c.open_catalog.ensures.goes.others }; found = sym c.in-Some.ensures }) c.in-Ok-read_rows.ensures.read
    (starved_on c.in-Ok.catalog c.in-Some.table.now c.args.mode c.in-Ok-read_rows.rows c.args.size mid last _ _ (g.C.Clock.answered c.args.clock.now) (g.C.Clock.answered c.load_rows.new.clock) (g.I.Ids.answered c.args.ids.now) (g.I.Ids.answered c.load_rows.new.ids) (record { places = refl; views = refl; where_known = opens.where_known }) (record { places = sat.places; views = refl; where_known = λ at acked. sat.where_known at (opens.where_known at acked) }) (inr (starved_after c.in-Ok.catalog (load_of c.in-Some.table.now c.args.mode c.in-Ok-read_rows.rows) (rows_after c.in-Ok-read_rows.rows) c.args.size _ _ c.in-Ok-load_rows.ensures.loaded sat))) is) c.text_of.ensures.err

pub returns-clause-err : goal.returns-clause-err
returns-clause-err g c =
    let mid = g.S.Registry.state c.open_catalog.new.stores in
    let last = g.S.Registry.state c.load_rows.new.stores in
    let opens = c.open_catalog.ensures.goes in
    let sat = c.load_rows.ensures.goes in
    OutOfMemory c.in-Ok.catalog mid.places mid.views c.in-Some.table.now c.in-Ok-read_rows.rows (record { opened = record { opened = record { entries = c.in-Ok.ensures.opened.entries; read = c.in-Ok.ensures.opened.read; tables = c.in-Ok.ensures.opened.tables; placed = c.in-Ok.ensures.opened.placed }; known = c.in-Ok.ensures.known; unchanged = c.open_catalog.ensures.unchanged; others = c.open_catalog.ensures.goes.others }; found = sym c.in-Some.ensures }) c.in-Ok-read_rows.ensures.read
    (starved_on c.in-Ok.catalog c.in-Some.table.now c.args.mode c.in-Ok-read_rows.rows c.args.size mid last _ _ (g.C.Clock.answered c.args.clock.now) (g.C.Clock.answered c.load_rows.new.clock) (g.I.Ids.answered c.args.ids.now) (g.I.Ids.answered c.load_rows.new.ids) (record { places = refl; views = refl; where_known = opens.where_known }) (record { places = sat.places; views = refl; where_known = λ at acked. sat.where_known at (opens.where_known at acked) }) c.in-Err-load_rows.ensures.out_of_memory) refl
