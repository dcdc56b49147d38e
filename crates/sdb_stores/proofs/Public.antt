-- The lemmas of this crate that others cite.
pub use Rattle.sdb_stores.proofs.Called.{grown, not_fewer, same_names}
pub use Rattle.sdb_stores.proofs.Distinct.{apart}
