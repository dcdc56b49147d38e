-- The lemmas of this crate that others cite.
pub use Rattle.law_protocol.proofs.Calls.{after_all, all_in_table, left_elsewhere, none_apart}
pub use Rattle.law_protocol.proofs.Canon.{firm_writer, some_id}
pub use Rattle.law_protocol.proofs.Current.{current_at, stand_at, unchanged_at}
pub use Rattle.law_protocol.proofs.Derived.{points_differ, recorded_row, row_recorded}
pub use Rattle.law_protocol.proofs.Each.{all_mapped, among_sent, at_key_of, each_among, each_key, has_first, in_keys, in_mapped, key_among, of_key, sent_among, sent_changes, sent_puts, sent_records, weaker}
pub use Rattle.law_protocol.proofs.Effects.{AtCall, after_delete, after_put, at_call, store_same}
pub use Rattle.law_protocol.proofs.Flights.{flights_at}
pub use Rattle.law_protocol.proofs.Followed.{follows_moved}
pub use Rattle.law_protocol.proofs.InFlight.{delayed_allowed, flying_was_delayed, recorded_answered, recorded_undelayed}
pub use Rattle.law_protocol.proofs.Known.{IsPlanned, held_key, row_known, accepted_fits, took_is_accepted, write_key, writer_accepted, writes_it}
pub use Rattle.law_protocol.proofs.Links.{row_is_no_data}
pub use Rattle.law_protocol.proofs.ModelTime.{answers_true, keeps_real_time, ordered_of, point_of, rest_rising}
pub use Rattle.law_protocol.proofs.Moments.{apart_from, at_cut, committed_at, cut, early_run, gone_at, half, rows_at, lies_at, unresolved_at}
pub use Rattle.law_protocol.proofs.Moved.{additions_moved, asked_moved, begun_moved, catalog_moved, commit_moved, executed_moved, flight_moved, moved_more, point_moved, stopped_moved}
pub use Rattle.law_protocol.proofs.Occurring.{IsLanded, occurs_by}
pub use Rattle.law_protocol.proofs.Order.{reads_serial, rows_serial}
pub use Rattle.law_protocol.proofs.Points.{firm_no}
pub use Rattle.law_protocol.proofs.Rolling.{firm_row}
pub use Rattle.law_protocol.proofs.RowKeys.{row_key_is}
pub use Rattle.law_protocol.proofs.Seen.{closed_still, open_before}
pub use Rattle.law_protocol.proofs.Settled.{Knows, aborted_of, firm_of, prepared_there}
pub use Rattle.law_protocol.proofs.Observed.{get_reply, row_there, scan_reply, span_table}
pub use Rattle.law_protocol.proofs.Single.{Single, one_held, one_left, single}
pub use Rattle.law_protocol.proofs.Small.{any_key}
pub use Rattle.law_protocol.proofs.Texts.{begin_begins, commit_commits}
pub use Rattle.law_protocol.proofs.Times.{traced_of, whole_of}
pub use Rattle.law_protocol.proofs.SerialOnStores.{one_stored, run_relocated}
pub use Rattle.law_protocol.proofs.Traces.{contents_of}
pub use Rattle.law_protocol.proofs.Whole.{Whole, whole}
