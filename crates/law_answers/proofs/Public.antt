-- The lemmas of this crate that others cite.
pub use Rattle.law_answers.proofs.Calls.{before_same, before_taken, call_executed, calls_open, calls_stay, clock_more, clock_same, end_answered, end_waiting, later_calls, later_more, later_within, made_at, none_made, of_within, one_made, own_made, silent_executed}
pub use Rattle.law_answers.proofs.Conflicts.{mapped_at, prepared_is, undo_unprepared}
pub use Rattle.law_answers.proofs.Counting.{all_counted}
pub use Rattle.law_answers.proofs.Counts.{calls_more, opens_first, opens_more, opens_one}
pub use Rattle.law_answers.proofs.CountsCommit.{group_prepares}
pub use Rattle.law_answers.proofs.CountsNotes.{last_or, open_only}
pub use Rattle.law_answers.proofs.Ends.{commit_is}
pub use Rattle.law_answers.proofs.Faults.{answered_seen, seen_no_faults}
pub use Rattle.law_answers.proofs.Fitting.{RowFits, access_fits, all_fitting, exec_fitting, get_fitting, left_fits_or_was, left_fitting, left_outside, rows_fitting}
pub use Rattle.law_answers.proofs.Given.{IsMiddle, asked_gives, given_middle, unfit_data}
pub use Rattle.law_answers.proofs.Groups.{all_in_groups}
pub use Rattle.law_answers.proofs.Knowing.{calls_wait, open_now, sweeps_now}
pub use Rattle.law_answers.proofs.Later.{commit_stays}
pub use Rattle.law_answers.proofs.Laws.{rolls_bad, rolls_committed, rolls_lost, rolls_unknown}
pub use Rattle.law_answers.proofs.Lists.{each_in, each_kept, filter_same, kept_in, since_more, since_new, since_none}
pub use Rattle.law_answers.proofs.ReadSets.{each_left, each_middle, since_all, take_ends, take_open}
pub use Rattle.law_answers.proofs.Passing.{Grows}
pub use Rattle.law_answers.proofs.PathCalls.{made_more, made_none}
pub use Rattle.law_answers.proofs.ReadSteps.{IsDataTable, LeavesData, bad_is, open_is, prepared_moment, reads_on, observed_read}
pub use Rattle.law_answers.proofs.Rolled.{all_resolved, but_still, none_found, reads_so_far}
pub use Rattle.law_answers.proofs.RolledSteps.{read_rolls, recovery_unread}
pub use Rattle.law_answers.proofs.Rows.{after_last, after_more, asks_data, asks_row, bad_unfinished, before_stays}
pub use Rattle.law_answers.proofs.Settling.{data_read, read_checks, settled_means}
pub use Rattle.law_answers.proofs.Observing.{IsOpenAt, firm_checked, observes_on, unread_rows}
pub use Rattle.law_answers.proofs.OwnRows.{effective_by}
pub use Rattle.law_answers.proofs.OwnRowsRead.{unwritten}
pub use Rattle.law_answers.proofs.OwnRowsWhole.{answers_own}
pub use Rattle.law_answers.proofs.Takings.{middle_ends, never_vacuum, none_yet}
pub use Rattle.law_answers.proofs.Unfit.{at_note, found_new, rows_read_now, same_writes, observed_bad}
pub use Rattle.law_answers.proofs.Whole.{alters_all, clock_all, explained, invariant_serial, idles_all, lands_all, replies_all, starts_all, stops_all, takes_all}
