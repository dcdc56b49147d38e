-- The lemmas of this crate that others cite.
pub use Rattle.law_clients.proofs.Answered.{answer_last, take_executed}
pub use Rattle.law_clients.proofs.Begin.{accepted_begun}
pub use Rattle.law_clients.proofs.Betweens.{between_more, parts_more}
pub use Rattle.law_clients.proofs.Catalogs.{now_after}
pub use Rattle.law_clients.proofs.Checks.{finds_sound}
pub use Rattle.law_clients.proofs.ClientIn.{asks_in, replies_in, takes_in}
pub use Rattle.law_clients.proofs.Faith.{beyond}
pub use Rattle.law_clients.proofs.Faults.{faults_replied, faults_at_takes}
pub use Rattle.law_clients.proofs.Files.{clients_faithful, accepted_counts}
pub use Rattle.law_clients.proofs.Finishing.{found_so, given_finishes, passes_all}
pub use Rattle.law_clients.proofs.Fitted.{asked_at, by_next, replies_fitted, takes_fitted}
pub use Rattle.law_clients.proofs.InTables.{access_table, own_table}
pub use Rattle.law_clients.proofs.InvariantEnds.{executed_at, invariant_is_read_sets, invariant_is_run, ran_of}
pub use Rattle.law_clients.proofs.InvariantTurns.{invariant_stops}
pub use Rattle.law_clients.proofs.Keys.{keys_changed, keys_with}
pub use Rattle.law_clients.proofs.Lists.{drop_all, each_at, each_both, each_filter, each_map, each_more, filter_all, map_all, take_all}
pub use Rattle.law_clients.proofs.Meanings.{IsRollTo, abort_rolls_none, among_found, back_rolls_to, before_key, each_of, find_last, find_more, forward_rolls_to, look_rolls_none, meaning_rolled, meaning_settled, read_unrolled, rolls_none_after, state_says, unrolled_more}
pub use Rattle.law_clients.proofs.Meta.{meta_of}
pub use Rattle.law_clients.proofs.ReadRecords.{coordinators}
pub use Rattle.law_clients.proofs.Plain.{own_at}
pub use Rattle.law_clients.proofs.ReadReplies.{ended}
pub use Rattle.law_clients.proofs.Replied.{ended_is, next_stage, replies_so}
pub use Rattle.law_clients.proofs.Replies.{replies}
pub use Rattle.law_clients.proofs.Rests.{invariant_alters, invariant_lands, invariant_rests, invariant_starts}
pub use Rattle.law_clients.proofs.RowsFit.{Entries, all_in_fit, answers_on, done_is, fits_there, found_itself, is_fitting}
pub use Rattle.law_clients.proofs.SameTables.{of_tables}
pub use Rattle.law_clients.proofs.SessionCalls.{called}
pub use Rattle.law_clients.proofs.SessionFresh.{chain_more, fresh_ids, reached}
pub use Rattle.law_clients.proofs.SessionLaws.{final_moment}
pub use Rattle.law_clients.proofs.SessionSteps.{session_serial}
pub use Rattle.law_clients.proofs.Starves.{starves}
pub use Rattle.law_clients.proofs.Accepted.{kept_at, mapped_at, other_no_begin, other_no_commit, refused_no_commit}
pub use Rattle.law_clients.proofs.Takings.{takes}
pub use Rattle.law_clients.proofs.Histories.{numbers_more, others_silent, executed_more}
pub use Rattle.law_clients.proofs.SessionTexts.{text_is_read}
pub use Rattle.law_clients.proofs.Whole.{IsOnTable, by_memory, TakesNow, inner_read, literals_read, on_table, takes_so}
pub use Rattle.law_clients.proofs.Wholes.{order_runs}
pub use Rattle.law_clients.proofs.Work.{no_base}
pub use Rattle.law_clients.proofs.Working.{replies_lead, takings_lead}
