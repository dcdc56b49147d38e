use Rattle.std.proofs.Common.{refl, sym}
use Rattle.sdb_app.specs.Export.StopsExport.{Unexported, Untabled}
use Rattle.sdb_app.specs.Load.IsTableUnopened.{Unnamed, Unopened}
use Rattle.sdb_app.proofs.Loads.{exported_on, not_on}
use Rattle.sdb_app.proofs.export.export.Goals as goal

pub returns-in-Err-clause-err : goal.returns-in-Err-clause-err
returns-in-Err-clause-err g c =
    λ input. Untabled (Unopened c.in-Err.refused (record { refused = c.in-Err.ensures.err; bad = c.in-Err.ensures.bad; unchanged = c.open_catalog.ensures.unchanged; others = c.open_catalog.ensures.goes.others }) c.catalog_status.ensures) (record { clock = refl; ids = refl }) refl

pub returns-in_default-clause-err : goal.returns-in_default-clause-err
returns-in_default-clause-err g c =
    let mid = g.S.Registry.state c.open_catalog.new.stores in
    λ input. Untabled (Unnamed c.in-Ok.catalog mid.places (record { opened = record { entries = c.in-Ok.ensures.opened.entries; read = c.in-Ok.ensures.opened.read; tables = c.in-Ok.ensures.opened.tables; placed = c.in-Ok.ensures.opened.placed }; known = c.in-Ok.ensures.known; unchanged = c.open_catalog.ensures.unchanged; others = c.open_catalog.ensures.goes.others }) (sym c.in_default.ensures) refl) (record { clock = refl; ids = refl }) refl

pub returns-in-Ok-export_table-clause-answered : goal.returns-in-Ok-export_table-clause-answered
returns-in-Ok-export_table-clause-answered g c =
    let mid = g.S.Registry.state c.open_catalog.new.stores in
    let opens = c.open_catalog.ensures.goes in
    let last = g.S.Registry.state c.export_table.new.stores in
    let sat = c.export_table.ensures.goes in
    λ input. record {
      catalog = c.in-Ok.catalog;
      places = mid.places;
      mid = mid.views;
      table = c.in-Some.table.now;
      opened = record { opened = record { opened = record { entries = c.in-Ok.ensures.opened.entries; read = c.in-Ok.ensures.opened.read; tables = c.in-Ok.ensures.opened.tables; placed = c.in-Ok.ensures.opened.placed }; known = c.in-Ok.ensures.known; unchanged = c.open_catalog.ensures.unchanged; others = c.open_catalog.ensures.goes.others }; found = sym c.in-Some.ensures };
      exported = exported_on _ _ mid last _ _ _ _ _ _ _ (record { places = refl; views = refl; where_known = opens.where_known }) (record { places = sat.places; views = refl; where_known = λ at acked. sat.where_known at (opens.where_known at acked) }) c.in-Ok-export_table.ensures.exported;
      unread = refl;
    }

pub returns-clause-err : goal.returns-clause-err
returns-clause-err g c =
    let mid = g.S.Registry.state c.open_catalog.new.stores in
    let opens = c.open_catalog.ensures.goes in
    let last = g.S.Registry.state c.export_table.new.stores in
    let sat = c.export_table.ensures.goes in
    λ input. Unexported c.in-Ok.catalog mid.places mid.views c.in-Some.table.now c.in-Err-export_table.refused (record { opened = record { opened = record { entries = c.in-Ok.ensures.opened.entries; read = c.in-Ok.ensures.opened.read; tables = c.in-Ok.ensures.opened.tables; placed = c.in-Ok.ensures.opened.placed }; known = c.in-Ok.ensures.known; unchanged = c.open_catalog.ensures.unchanged; others = c.open_catalog.ensures.goes.others }; found = sym c.in-Some.ensures })
    (not_on _ _ mid last _ _ _ _ _ _ c.in-Err-export_table.refused (record { places = refl; views = refl; where_known = opens.where_known }) (record { places = sat.places; views = refl; where_known = λ at acked. sat.where_known at (opens.where_known at acked) }) c.in-Err-export_table.ensures.refused) c.export_status.ensures refl
