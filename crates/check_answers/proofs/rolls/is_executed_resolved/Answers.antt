use Rattle.std.proofs.Common.{ap, sym, ◌∙◌}
use Rattle.sdb_contents.specs.Commits.{executed_of}
use Rattle.check_tables.specs.Values.{all_made}
use Rattle.check_answers.proofs.Decided.{if_ok}
use Rattle.check_answers.proofs.RollLaws.{said_resolved, said_unfinished}
use Rattle.check_answers.proofs.rolls.is_executed_resolved.Goals as goal

pub returns-then-not-has_finished : goal.returns-then-not-has_finished
returns-then-not-has_finished c =
    said_unfinished c.args.events.now c.args.client (executed_of c.args.executed.now) c.as_slice-all.result.now (ap all_made c.as_slice-all.ensures ∙ c.in_ok-calls.ensures) (sym c.if-not-has_finished.ensures)

pub returns : goal.returns
returns c =
    if_ok c.are_well_read.result (λ b h. said_resolved c.args.events.now c.args.client (executed_of c.args.executed.now) c.as_slice-all.result.now (ap all_made c.as_slice-all.ensures ∙ c.in_ok-calls.ensures) b c.in_ok-vacuums.vacuums (sym c.if-not-has_finished.ensures) c.in_ok-vacuums.ensures h) c.are_well_read.ensures
