use Rattle.std.proofs.Common.{refl}
use Rattle.sdb_contents.proofs.Public.{goes_none}
use Rattle.sdb_shell.specs.declared.export_refused.ExportRefused.TheVariants as refused
use Rattle.sdb_shell.specs.Ends.{ends}
use Rattle.sdb_shell.specs.Exports.{IsNotExported}
use Rattle.sdb_shell.specs.Turns.{point}
use Rattle.sdb_shell.proofs.ExportSteps.{exported, not_exported, starved_last}
use Rattle.sdb_shell.proofs.Points.{passed, so_none}
use Rattle.sdb_shell.proofs.exports.export_table.Goals as goal

pub returns-in_err-rows-clause-refused : goal.returns-in_err-rows-clause-refused
returns-in_err-rows-clause-refused g c =
    let first = point g.C.Clock.answered g.I.Ids.answered c.args.stores.now c.args.clock.now c.args.ids.now c.new-session.result in
    let p = point g.C.Clock.answered g.I.Ids.answered c.args.stores.now c.args.clock.now c.new-session.new.ids c.new-session.result in
    let q = point g.C.Clock.answered g.I.Ids.answered c.read_rows.new.stores c.read_rows.new.clock c.read_rows.new.ids c.read_rows.new.session in
    passed (IsNotExported c.args.catalog.now c.args.table.now (ends g.S.Registry.state g.C.Clock.answered g.I.Ids.answered c.args.stores.now c.read_rows.new.stores c.args.clock.now c.read_rows.new.clock c.args.ids.now c.read_rows.new.ids)) c.from_residual.result c.in_err-rows.field-0.0 c.from_residual.ensures.1
    (not_exported g.S.Registry.state c.args.catalog.now c.args.table.now first p q c.in_err-rows.field-0.0 (goes_none (g.S.Registry.state c.args.stores.now)) (so_none g.S.Registry.state c.args.catalog.now first p refl refl c.new-session.ensures.client c.new-session.ensures.fresh) c.in_err-rows.ensures.refused)

pub returns-in_err-text_of-clause-refused : goal.returns-in_err-text_of-clause-refused
returns-in_err-text_of-clause-refused g c =
    let first = point g.C.Clock.answered g.I.Ids.answered c.args.stores.now c.args.clock.now c.args.ids.now c.new-session.result in
    let p = point g.C.Clock.answered g.I.Ids.answered c.args.stores.now c.args.clock.now c.new-session.new.ids c.new-session.result in
    let q = point g.C.Clock.answered g.I.Ids.answered c.read_rows.new.stores c.read_rows.new.clock c.read_rows.new.ids c.read_rows.new.session in
    passed (IsNotExported c.args.catalog.now c.args.table.now (ends g.S.Registry.state g.C.Clock.answered g.I.Ids.answered c.args.stores.now c.read_rows.new.stores c.args.clock.now c.read_rows.new.clock c.args.ids.now c.read_rows.new.ids)) c.from_residual-in_err-text_of.result refused.NoMemory c.from_residual-in_err-text_of.ensures.1
    (starved_last g.S.Registry.state c.args.catalog.now c.args.table.now first p q c.in_ok-rows.rows (so_none g.S.Registry.state c.args.catalog.now first p refl refl c.new-session.ensures.client c.new-session.ensures.fresh) c.read_rows.ensures.goes c.in_ok-rows.ensures.read)

pub returns-clause-exported : goal.returns-clause-exported
returns-clause-exported g c =
    let first = point g.C.Clock.answered g.I.Ids.answered c.args.stores.now c.args.clock.now c.args.ids.now c.new-session.result in
    let p = point g.C.Clock.answered g.I.Ids.answered c.args.stores.now c.args.clock.now c.new-session.new.ids c.new-session.result in
    let q = point g.C.Clock.answered g.I.Ids.answered c.read_rows.new.stores c.read_rows.new.clock c.read_rows.new.ids c.read_rows.new.session in
    exported g.S.Registry.state c.args.catalog.now c.args.table.now first p q c.in_ok-rows.rows c.in_ok-text_of.field-0 (so_none g.S.Registry.state c.args.catalog.now first p refl refl c.new-session.ensures.client c.new-session.ensures.fresh) c.in_ok-rows.ensures.read c.in_ok-text_of.ensures
