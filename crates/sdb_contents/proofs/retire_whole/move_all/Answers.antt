use Rattle.std.proofs.Common.{[], inl}
use Rattle.sdb_catalog.proofs.Public.{passed_on}
use Rattle.sdb_contents.proofs.RetireCalls.{goes_more, goes_none, hold_none, still_there}
use Rattle.sdb_contents.proofs.RetireEnded.{halted_err, left_err, moved_ok, others_either}
use Rattle.sdb_contents.proofs.Known.{others_none}
use Rattle.sdb_contents.proofs.Moved.{each_rises}
use Rattle.sdb_contents.proofs.Steps.{first_index, first_there}
use Rattle.sdb_contents.proofs.Surveys.{later_index, left_at, unmoved_unsurveyed}
use Rattle.sdb_contents.proofs.retire_whole.move_all.Goals as goal

pub write_all-requires-clause-named : goal.write_all-requires-clause-named
write_all-requires-clause-named g c = later_index (g.R.Registry.state c.args.stores.now) (g.R.Registry.state c.survey_of.new.stores) c.in_ok-first.first c.in_ok-survey.ensures.goes (first_index (g.R.Registry.state c.args.stores.now) c.in_ok-first.first c.in_ok-first.ensures)

pub write_all-requires-clause-first : goal.write_all-requires-clause-first
write_all-requires-clause-first g c = still_there (g.R.Registry.state c.args.stores.now) (g.R.Registry.state c.survey_of.new.stores) c.in_ok-first.first c.in_ok-survey.ensures.goes (first_there (g.R.Registry.state c.args.stores.now) c.in_ok-first.first c.in_ok-first.ensures)

pub write_all-requires-clause-to : goal.write_all-requires-clause-to
write_all-requires-clause-to g c = still_there (g.R.Registry.state c.args.stores.now) (g.R.Registry.state c.survey_of.new.stores) c.args.to.now c.in_ok-survey.ensures.goes c.requires.to

pub write_all-requires-clause-columns : goal.write_all-requires-clause-columns
write_all-requires-clause-columns g c = each_rises _ c.args.from.now c.args.to.now [] c.in_ok-survey.survey.entries c.in_ok-survey.ensures.observed.opened.opens.follow

pub returns-clause-moved : goal.returns-clause-moved
returns-clause-moved g c =
    moved_ok c.write_all.result (record { from = c.args.from.now; to = c.args.to.now }) c.in_ok-survey.survey (g.R.Registry.state c.args.stores.now) (g.R.Registry.state c.survey_of.new.stores) (g.R.Registry.state c.write_all.new.stores) c.in_ok-survey.ensures.goes c.in_ok-survey.ensures.held c.in_ok-survey.ensures.observed c.write_all.ensures.count
    c.write_all.ensures.made c.write_all.ensures.held

pub returns-clause-left : goal.returns-clause-left
returns-clause-left g c =
    left_err c.write_all.result (record { from = c.args.from.now; to = c.args.to.now }) c.in_ok-survey.survey (g.R.Registry.state c.args.stores.now) (g.R.Registry.state c.survey_of.new.stores) (g.R.Registry.state c.write_all.new.stores) c.in_ok-survey.ensures.goes c.in_ok-survey.ensures.held c.in_ok-survey.ensures.observed c.write_all.ensures.left

pub returns-clause-others : goal.returns-clause-others
returns-clause-others g c =
    others_either c.write_all.result (record { from = c.args.from.now; to = c.args.to.now }) c.in_ok-survey.survey (g.R.Registry.state c.args.stores.now) (g.R.Registry.state c.survey_of.new.stores) (g.R.Registry.state c.write_all.new.stores) c.in_ok-survey.ensures.goes c.in_ok-survey.ensures.held c.write_all.ensures.held c.write_all.ensures.left

pub returns-clause-goes : goal.returns-clause-goes
returns-clause-goes g c =
    goes_more (g.R.Registry.state c.args.stores.now) (g.R.Registry.state c.survey_of.new.stores) (g.R.Registry.state c.write_all.new.stores) c.in_ok-survey.ensures.goes c.write_all.ensures.goes

pub returns-clause-err : goal.returns-clause-err
returns-clause-err g c =
    halted_err c.write_all.result (record { from = c.args.from.now; to = c.args.to.now }) c.in_ok-survey.survey (g.R.Registry.state c.args.stores.now) (g.R.Registry.state c.survey_of.new.stores) (g.R.Registry.state c.write_all.new.stores) c.in_ok-survey.ensures.goes c.in_ok-survey.ensures.held c.in_ok-survey.ensures.observed c.write_all.ensures.err

pub returns-in_err-survey-clause-left : goal.returns-in_err-survey-clause-left
returns-in_err-survey-clause-left g c = left_at _ _ (inl c.in_err-survey.ensures.held)

pub returns-in_err-survey-clause-others : goal.returns-in_err-survey-clause-others
returns-in_err-survey-clause-others g c = others_none (record { from = c.args.from.now; to = c.args.to.now }) (g.R.Registry.state c.args.stores.now) (g.R.Registry.state c.survey_of.new.stores) c.in_err-survey.ensures.held

pub returns-in_err-survey-clause-err : goal.returns-in_err-survey-clause-err
returns-in_err-survey-clause-err g c =
    passed_on _ c.from_residual-in_err-survey.result c.in_err-survey.field-0.0 c.from_residual-in_err-survey.ensures.1
    (unmoved_unsurveyed (g.R.Registry.state c.args.stores.now) (g.R.Registry.state c.survey_of.new.stores) (record { from = c.args.from.now; to = c.args.to.now }) c.in_err-survey.field-0.0 c.in_err-survey.ensures.held c.in_err-survey.ensures.err)

pub survey_of-requires-clause-named : goal.survey_of-requires-clause-named
survey_of-requires-clause-named g c = first_index (g.R.Registry.state c.args.stores.now) c.in_ok-first.first c.in_ok-first.ensures

pub survey_of-requires-clause-first : goal.survey_of-requires-clause-first
survey_of-requires-clause-first g c = first_there (g.R.Registry.state c.args.stores.now) c.in_ok-first.first c.in_ok-first.ensures

pub returns-in_err-first-clause-left : goal.returns-in_err-first-clause-left
returns-in_err-first-clause-left g c = left_at _ _ (inl (hold_none (g.R.Registry.state c.args.stores.now)))

pub returns-in_err-first-clause-others : goal.returns-in_err-first-clause-others
returns-in_err-first-clause-others g c = others_none (record { from = c.args.from.now; to = c.args.to.now }) (g.R.Registry.state c.args.stores.now) (g.R.Registry.state c.args.stores.now) (hold_none (g.R.Registry.state c.args.stores.now))

pub returns-in_err-first-clause-goes : goal.returns-in_err-first-clause-goes
returns-in_err-first-clause-goes g c = goes_none (g.R.Registry.state c.args.stores.now)
