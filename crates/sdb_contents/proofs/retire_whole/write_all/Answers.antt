use Rattle.std.proofs.Common.{◌∙◌, ap, subst, sym}
use Rattle.std.specs.List.{AllByRecursion, list_all}
use Rattle.sdb_schema.specs.Table.{rises}
use Rattle.sdb_catalog.specs.declared.entry.Entry.{Entry}
use Rattle.sdb_catalog.proofs.Public.{passed_on}
use Rattle.sdb_contents.specs.Copying.{IsOfOne, requests_of}
use Rattle.sdb_contents.specs.Moving.{renewals}
use Rattle.sdb_contents.proofs.Making.{renewals_one, requests_one}
use Rattle.sdb_contents.proofs.RetireCalls.{goes_more, still_there}
use Rattle.sdb_contents.proofs.Surveys.{both_made, halted_second, left_at, left_first, left_second, written_all}
use Rattle.sdb_contents.proofs.retire_whole.write_all.Goals as goal

pub renewals-requires : goal.renewals-requires
renewals-requires g c = ap (list_all (λ (e : Entry). rises e.table.columns)) c.as_slice-2.ensures ∙ c.requires.columns

pub run-requires : goal.run-requires
run-requires g c = record { attached = c.requires.to; one = subst (AllByRecursion IsOfOne) (sym (c.as_slice-3.ensures ∙ c.in_ok-requests.ensures ∙ ap requests_of c.as_slice.ensures)) (requests_one c.args.survey.now.seen) }

pub run-requires-2 : goal.run-requires-2
run-requires-2 g c = record {
  attached = still_there (g.R.Registry.state c.args.stores.now) (g.R.Registry.state c.run.new.stores) c.args.first.now c.in_ok-run.ensures.goes c.requires.first;
  one = subst (AllByRecursion IsOfOne) (sym (c.as_slice-4.ensures ∙ c.in_ok-rows.ensures ∙ ap (renewals c.args.from.now c.args.to.now) c.as_slice-2.ensures)) (renewals_one c.args.from.now c.args.to.now c.args.survey.now.entries);
}

pub returns-clause-held : goal.returns-clause-held
returns-clause-held g c =
    written_all (g.R.Registry.state c.args.stores.now) (g.R.Registry.state c.run.new.stores) (g.R.Registry.state c.run-2.new.stores) c.args.first.now c.args.from.now c.args.to.now c.args.survey.now c.as_slice-3.result.now c.as_slice-4.result.now
    c.in_ok-run.ensures.goes c.requires.named (c.as_slice-3.ensures ∙ c.in_ok-requests.ensures ∙ ap requests_of c.as_slice.ensures) (c.as_slice-4.ensures ∙ c.in_ok-rows.ensures ∙ ap (renewals c.args.from.now c.args.to.now) c.as_slice-2.ensures)
    c.in_ok-run.ensures.held c.in_ok-run-2.ensures.held

pub returns-clause-made : goal.returns-clause-made
returns-clause-made g c =
    let old = g.R.Registry.state c.args.stores.now in
    let mid = g.R.Registry.state c.run.new.stores in
    let new = g.R.Registry.state c.run-2.new.stores in
    both_made old mid new.views c.args.first.now c.args.from.now c.args.to.now c.args.survey.now c.as_slice-3.result.now c.as_slice-4.result.now
    c.in_ok-run.ensures.goes c.requires.named (c.as_slice-3.ensures ∙ c.in_ok-requests.ensures ∙ ap requests_of c.as_slice.ensures) (c.as_slice-4.ensures ∙ c.in_ok-rows.ensures ∙ ap (renewals c.args.from.now c.args.to.now) c.as_slice-2.ensures)
    c.in_ok-run.ensures.made c.in_ok-run-2.ensures.made

pub returns-clause-goes : goal.returns-clause-goes
returns-clause-goes g c =
    goes_more (g.R.Registry.state c.args.stores.now) (g.R.Registry.state c.run.new.stores) (g.R.Registry.state c.run-2.new.stores) c.in_ok-run.ensures.goes c.in_ok-run-2.ensures.goes

pub returns-in_err-run-clause-left : goal.returns-in_err-run-clause-left
returns-in_err-run-clause-left g c =
    left_at _ _ (left_first (g.R.Registry.state c.args.stores.now) (g.R.Registry.state c.run.new.stores) c.args.from.now c.args.to.now c.args.survey.now c.as_slice-3.result.now (c.as_slice-3.ensures ∙ c.in_ok-requests.ensures ∙ ap requests_of c.as_slice.ensures) c.in_err-run.ensures.left)

pub returns-in_err-run-2-clause-left : goal.returns-in_err-run-2-clause-left
returns-in_err-run-2-clause-left g c =
    left_at _ _ (left_second (g.R.Registry.state c.args.stores.now) (g.R.Registry.state c.run.new.stores) (g.R.Registry.state c.run-2.new.stores) c.args.first.now c.args.from.now c.args.to.now c.args.survey.now c.as_slice-3.result.now c.as_slice-4.result.now
    c.in_ok-run.ensures.goes c.requires.named (c.as_slice-3.ensures ∙ c.in_ok-requests.ensures ∙ ap requests_of c.as_slice.ensures) (c.as_slice-4.ensures ∙ c.in_ok-rows.ensures ∙ ap (renewals c.args.from.now c.args.to.now) c.as_slice-2.ensures)
    c.in_ok-run.ensures.held c.in_err-run-2.ensures.left)

pub returns-in_err-run-2-clause-err : goal.returns-in_err-run-2-clause-err
returns-in_err-run-2-clause-err g c =
    passed_on _ c.from_residual-in_err-run-2.result c.in_err-run-2.field-0.0 c.from_residual-in_err-run-2.ensures.1
    (halted_second (g.R.Registry.state c.args.stores.now) (g.R.Registry.state c.run.new.stores) (g.R.Registry.state c.run-2.new.stores).views c.args.first.now c.args.from.now c.args.to.now c.args.survey.now c.as_slice-3.result.now c.as_slice-4.result.now c.in_err-run-2.field-0.0
    c.in_ok-run.ensures.goes c.requires.named (c.as_slice-3.ensures ∙ c.in_ok-requests.ensures ∙ ap requests_of c.as_slice.ensures) (c.as_slice-4.ensures ∙ c.in_ok-rows.ensures ∙ ap (renewals c.args.from.now c.args.to.now) c.as_slice-2.ensures) c.in_ok-run.ensures.held c.in_err-run-2.ensures.err)
