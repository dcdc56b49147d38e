-- The lemmas of this crate that others cite.
pub use Rattle.check_protocol.proofs.Lists.{In, all_each, any_some, each_all, found_in, none_some, not_both, not_true, or_left, right, some_any, true_not}
pub use Rattle.check_protocol.proofs.Requests.{is_request, request_is}
pub use Rattle.check_protocol.proofs.ObservedLaws.{is_number, is_record, keeps_none_is, kept_writer_is, number_is, record_is}
