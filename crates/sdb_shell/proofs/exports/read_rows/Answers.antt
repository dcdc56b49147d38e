use Rattle.sdb_contents.proofs.Public.{goes_more}
use Rattle.sdb_shell.specs.declared.export_refused.ExportRefused.TheVariants as refused
use Rattle.sdb_shell.specs.Exports.{HaveNotRead}
use Rattle.sdb_shell.specs.Turns.{point}
use Rattle.sdb_shell.proofs.ExportSteps.{cut_first, cut_second, cut_third, read_all, starved_first}
use Rattle.sdb_shell.proofs.Points.{passed}
use Rattle.sdb_shell.proofs.exports.read_rows.Goals as goal

pub returns-in_err-select-clause-refused : goal.returns-in_err-select-clause-refused
returns-in_err-select-clause-refused g c =
    let p = point g.C.Clock.answered g.I.Ids.answered c.args.stores.now c.args.clock.now c.args.ids.now c.args.session.now in
    passed (HaveNotRead g.S.Registry.state c.args.catalog.now c.args.table.now p p) c.from_residual.result refused.NoMemory c.from_residual.ensures.1 (starved_first g.S.Registry.state c.args.catalog.now c.args.table.now p)

pub returns-in_err-ask-clause-refused : goal.returns-in_err-ask-clause-refused
returns-in_err-ask-clause-refused g c =
    let p = point g.C.Clock.answered g.I.Ids.answered c.args.stores.now c.args.clock.now c.args.ids.now c.args.session.now in
    let q = point g.C.Clock.answered g.I.Ids.answered c.ask.new.stores c.ask.new.clock c.ask.new.ids c.ask.new.session in
    passed (HaveNotRead g.S.Registry.state c.args.catalog.now c.args.table.now p q) c.from_residual-in_err-ask.result c.in_err-ask.field-0.0 c.from_residual-in_err-ask.ensures.1
    (cut_first g.S.Registry.state c.args.catalog.now c.args.table.now c.in_ok-select.select c.in_ok-select.ensures p q c.in_err-ask.field-0.0 c.in_err-ask.ensures.refused c.ask.ensures.goes)

pub returns-in_err-rows-clause-refused : goal.returns-in_err-rows-clause-refused
returns-in_err-rows-clause-refused g c =
    let p = point g.C.Clock.answered g.I.Ids.answered c.args.stores.now c.args.clock.now c.args.ids.now c.args.session.now in
    let q = point g.C.Clock.answered g.I.Ids.answered c.ask.new.stores c.ask.new.clock c.ask.new.ids c.ask.new.session in
    let r = point g.C.Clock.answered g.I.Ids.answered c.ask-2.new.stores c.ask-2.new.clock c.ask-2.new.ids c.ask-2.new.session in
    passed (HaveNotRead g.S.Registry.state c.args.catalog.now c.args.table.now p r) c.from_residual-in_err-rows.result c.in_err-rows.field-0.0 c.from_residual-in_err-rows.ensures.1
    (cut_second g.S.Registry.state c.args.catalog.now c.args.table.now c.in_ok-select.select c.in_ok-select.ensures p q c.in_ok-ask.field-0 c.in_ok-ask.ensures.answered c.ask.ensures.goes r c.in_err-rows.field-0.0 c.in_err-rows.ensures.refused c.ask-2.ensures.goes)

pub returns-in_err-rows-clause-goes : goal.returns-in_err-rows-clause-goes
returns-in_err-rows-clause-goes g c = goes_more _ _ _ c.ask.ensures.goes c.ask-2.ensures.goes

pub returns-in_err-ask-2-clause-refused : goal.returns-in_err-ask-2-clause-refused
returns-in_err-ask-2-clause-refused g c =
    let p = point g.C.Clock.answered g.I.Ids.answered c.args.stores.now c.args.clock.now c.args.ids.now c.args.session.now in
    let q = point g.C.Clock.answered g.I.Ids.answered c.ask.new.stores c.ask.new.clock c.ask.new.ids c.ask.new.session in
    let r = point g.C.Clock.answered g.I.Ids.answered c.ask-2.new.stores c.ask-2.new.clock c.ask-2.new.ids c.ask-2.new.session in
    let x = point g.C.Clock.answered g.I.Ids.answered c.ask-3.new.stores c.ask-3.new.clock c.ask-3.new.ids c.ask-3.new.session in
    passed (HaveNotRead g.S.Registry.state c.args.catalog.now c.args.table.now p x) c.from_residual-in_err-ask-2.result c.in_err-ask-2.field-0.0 c.from_residual-in_err-ask-2.ensures.1
    (cut_third g.S.Registry.state c.args.catalog.now c.args.table.now c.in_ok-select.select c.in_ok-select.ensures p q c.in_ok-ask.field-0 c.in_ok-ask.ensures.answered c.ask.ensures.goes r c.in_ok-rows.rows c.in_ok-rows.ensures.answered c.ask-2.ensures.goes x c.in_err-ask-2.field-0.0 c.in_err-ask-2.ensures.refused c.ask-3.ensures.goes)

pub returns-in_err-ask-2-clause-goes : goal.returns-in_err-ask-2-clause-goes
returns-in_err-ask-2-clause-goes g c = goes_more _ _ _ (goes_more _ _ _ c.ask.ensures.goes c.ask-2.ensures.goes) c.ask-3.ensures.goes

pub returns-clause-read : goal.returns-clause-read
returns-clause-read g c =
    let p = point g.C.Clock.answered g.I.Ids.answered c.args.stores.now c.args.clock.now c.args.ids.now c.args.session.now in
    let q = point g.C.Clock.answered g.I.Ids.answered c.ask.new.stores c.ask.new.clock c.ask.new.ids c.ask.new.session in
    let r = point g.C.Clock.answered g.I.Ids.answered c.ask-2.new.stores c.ask-2.new.clock c.ask-2.new.ids c.ask-2.new.session in
    let x = point g.C.Clock.answered g.I.Ids.answered c.ask-3.new.stores c.ask-3.new.clock c.ask-3.new.ids c.ask-3.new.session in
    read_all g.S.Registry.state c.args.catalog.now c.args.table.now c.in_ok-select.select c.in_ok-select.ensures p q c.in_ok-ask.field-0 c.in_ok-ask.ensures.answered c.ask.ensures.goes r c.in_ok-rows.rows c.in_ok-rows.ensures.answered c.ask-2.ensures.goes x c.in_ok-ask-2.field-0 c.in_ok-ask-2.ensures.answered c.ask-3.ensures.goes

pub returns-clause-goes : goal.returns-clause-goes
returns-clause-goes g c = goes_more _ _ _ (goes_more _ _ _ c.ask.ensures.goes c.ask-2.ensures.goes) c.ask-3.ensures.goes
