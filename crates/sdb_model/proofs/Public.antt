-- The lemmas of this crate that others cite.
pub use Rattle.sdb_model.proofs.Basics.{are_bytes, digit_is, id_again, is_bytes, where_rows}
pub use Rattle.sdb_model.proofs.Catalogs.{after_append, after_is, after_more, find_with, same_length, same_tables, taken_by}
pub use Rattle.sdb_model.proofs.Pieces.{report_parts}
pub use Rattle.sdb_model.proofs.Requests.{IsRefused, PreparesAt, any_less, call_of, in_only, only_in, only_put, put_among, puts_table, observed_unmet, unmet_all_observed, unmet_observed}
