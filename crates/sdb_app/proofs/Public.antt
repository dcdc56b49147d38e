-- The lemmas of this crate that others cite.
pub use Rattle.sdb_app.proofs.Promising.{ended_before}
