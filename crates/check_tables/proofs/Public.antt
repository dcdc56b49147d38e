-- The lemmas of this crate that others cite.
pub use Rattle.check_tables.proofs.Walks.{learned_is}
