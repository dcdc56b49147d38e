use Rattle.law_runs.proofs.ForgedCommits.{another_refused, early_refused, unapplied_refused, unprepared_refused, unwritten_refused}
use Rattle.law_runs.proofs.ForgedEnds.{faulted_refused}
use Rattle.law_runs.proofs.ForgedFound.{again_refused, counted_over_refused, forgotten_refused, invented_refused, left_out_refused, miscounted_refused, misfit_refused, no_duplicate_refused, unlimited_refused, unrolled_refused}
use Rattle.law_runs.proofs.ForgedMalformed.{later_refused, other_refused, rows_refused}
use Rattle.law_runs.proofs.ForgedPaths.{read_roll_refused, unfinished_refused, unprepared_roll_refused}
use Rattle.law_runs.proofs.Forgeries.{begin_refused, beside_refused, busy_refused, decision_refused, idle_busy_refused, lazy_refused, moment_refused}
use Rattle.law_runs.proofs.laws.forged_events_are_refused.Goals as goal

pub returns : goal.returns
returns c = record {
  busy = busy_refused;
  idle_busy = idle_busy_refused;
  faulted = faulted_refused;
  vacuumed = lazy_refused;
  begun = begin_refused;
  prepared = λ text w id now h. moment_refused text w id now h.0 h.1 h.2;
  decided = λ text id d now h. decision_refused text id d now h.0 h.1;
  decided_beside = beside_refused;
  invented = invented_refused;
  left_out = left_out_refused;
  misfit = misfit_refused;
  unrolled = unrolled_refused;
  unlimited = unlimited_refused;
  miscounted = miscounted_refused;
  counted_over = counted_over_refused;
  forgotten = forgotten_refused;
  no_duplicate = no_duplicate_refused;
  read_again = again_refused;
  unwritten = unwritten_refused;
  joined = another_refused;
  unprepared = unprepared_refused;
  unapplied = unapplied_refused;
  malformed = λ f key r rows h. rows_refused f key r h rows;
  misnamed = λ f key r other h. other_refused f key r h other;
  late = λ f key r other h. later_refused f key r h other;
  early = early_refused;
  unfinished = unfinished_refused;
  read_for_rolls = read_roll_refused;
  rolled_unprepared = unprepared_roll_refused;
}
