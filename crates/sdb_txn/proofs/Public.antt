-- The lemmas of this crate that others cite.
pub use Rattle.sdb_txn.proofs.Firm.{open_kind, open_unresolved}
pub use Rattle.sdb_txn.proofs.Images.{before_firm, decided_at, held_of}
pub use Rattle.sdb_txn.proofs.Keeps.{firm_by, open_by, step_valid}
pub use Rattle.sdb_txn.proofs.KeysOnce.{keys_differ}
pub use Rattle.sdb_txn.proofs.Notes.{kept_cut}
