-- The lemmas of this crate that others cite.
pub use Rattle.sdb_vacuum.proofs.Counts.{open_state}
pub use Rattle.sdb_vacuum.proofs.WellFormed.{firm_is}
