-- The lemmas of this crate that others cite.
pub use Rattle.sdb_ordered.proofs.SpanLemmas.{LiesFrom, from_start, is_from, past_end, lies_from, lies_later}
pub use Rattle.sdb_ordered.proofs.TreeLemmas.{get_entries, in_order, inserted}
