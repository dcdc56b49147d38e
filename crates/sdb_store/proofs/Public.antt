-- The lemmas of this crate that others cite.
pub use Rattle.sdb_store.proofs.Counts.{faults_grown, next_risen}
pub use Rattle.sdb_store.proofs.Lawful.{rises}
