use Rattle.std.proofs.Common.{◌∙◌, [], ap}
use Rattle.sdb_stores.specs.Views.{index_at}
use Rattle.sdb_catalog.proofs.Public.{passed_on}
use Rattle.sdb_contents.specs.Moving.{moving_tables}
use Rattle.sdb_contents.proofs.RetireCalls.{goes_more, hold_same, still_there}
use Rattle.sdb_contents.proofs.Surveys.{surveyed, unsurveyed_unread, unsurveyed_unseen}
use Rattle.sdb_contents.proofs.survey.survey_of.Goals as goal

pub returns-clause-observed : goal.returns-clause-observed
returns-clause-observed g c =
    let old = g.R.Registry.state c.args.stores.now in
    let mid = g.R.Registry.state c.read_moving.new.stores in
    surveyed old mid c.args.from.now c.args.to.now (index_at old c.args.first.now) c.in_ok-entries.entries c.in_ok-tables.tables c.as_slice-2.result.now c.in_ok-seen.seen c.requires.named c.in_ok-entries.ensures.opened c.in_ok-entries.ensures.goes c.in_ok-entries.ensures.held
    c.as_slice-2.ensures (c.in_ok-tables.ensures ∙ ap (moving_tables c.args.from.now) c.as_slice.ensures) c.in_ok-seen.ensures.seen

pub returns-clause-held : goal.returns-clause-held
returns-clause-held g c =
    hold_same (g.R.Registry.state c.args.stores.now) (g.R.Registry.state c.read_moving.new.stores) (g.R.Registry.state c.see_all.new.stores) [] c.in_ok-entries.ensures.goes c.in_ok-entries.ensures.held c.in_ok-seen.ensures.held

pub returns-clause-goes : goal.returns-clause-goes
returns-clause-goes g c =
    goes_more (g.R.Registry.state c.args.stores.now) (g.R.Registry.state c.read_moving.new.stores) (g.R.Registry.state c.see_all.new.stores) c.in_ok-entries.ensures.goes c.in_ok-seen.ensures.goes

pub see_all-requires-clause-from : goal.see_all-requires-clause-from
see_all-requires-clause-from g c = still_there (g.R.Registry.state c.args.stores.now) (g.R.Registry.state c.read_moving.new.stores) c.args.from.now c.in_ok-entries.ensures.goes c.requires.from

pub see_all-requires-clause-to : goal.see_all-requires-clause-to
see_all-requires-clause-to g c = still_there (g.R.Registry.state c.args.stores.now) (g.R.Registry.state c.read_moving.new.stores) c.args.to.now c.in_ok-entries.ensures.goes c.requires.to

pub returns-in_err-entries-clause-err : goal.returns-in_err-entries-clause-err
returns-in_err-entries-clause-err g c =
    let old = g.R.Registry.state c.args.stores.now in
    passed_on _ c.from_residual.result c.in_err-entries.field-0.0 c.from_residual.ensures.1
    (unsurveyed_unread c.args.from.now c.args.to.now (index_at old c.args.first.now) old (g.R.Registry.state c.read_moving.new.stores).views c.in_err-entries.field-0.0 c.requires.named c.in_err-entries.ensures.err)

pub returns-in_err-seen-clause-err : goal.returns-in_err-seen-clause-err
returns-in_err-seen-clause-err g c =
    let old = g.R.Registry.state c.args.stores.now in
    let mid = g.R.Registry.state c.read_moving.new.stores in
    passed_on _ c.from_residual-in_err-seen.result c.in_err-seen.field-0.0 c.from_residual-in_err-seen.ensures.1
    (unsurveyed_unseen old mid (g.R.Registry.state c.see_all.new.stores).views c.args.from.now c.args.to.now (index_at old c.args.first.now) c.in_ok-entries.entries c.in_ok-tables.tables c.as_slice-2.result.now c.in_err-seen.field-0.0 c.requires.named c.in_ok-entries.ensures.opened
    c.in_ok-entries.ensures.goes c.in_ok-entries.ensures.held c.as_slice-2.ensures (c.in_ok-tables.ensures ∙ ap (moving_tables c.args.from.now) c.as_slice.ensures) c.in_err-seen.ensures.err)

pub returns-in_err-seen-clause-held : goal.returns-in_err-seen-clause-held
returns-in_err-seen-clause-held g c =
    hold_same (g.R.Registry.state c.args.stores.now) (g.R.Registry.state c.read_moving.new.stores) (g.R.Registry.state c.see_all.new.stores) [] c.in_ok-entries.ensures.goes c.in_ok-entries.ensures.held c.in_err-seen.ensures.held

pub returns-in_err-seen-clause-goes : goal.returns-in_err-seen-clause-goes
returns-in_err-seen-clause-goes g c =
    goes_more (g.R.Registry.state c.args.stores.now) (g.R.Registry.state c.read_moving.new.stores) (g.R.Registry.state c.see_all.new.stores) c.in_ok-entries.ensures.goes c.in_err-seen.ensures.goes
