-- The lemmas of this crate that others cite.
pub use Rattle.sdb_validate.proofs.Rescans.{first_lost}
