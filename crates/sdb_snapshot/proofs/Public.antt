-- The lemmas of this crate that others cite.
pub use Rattle.sdb_snapshot.proofs.Differences.{read_images, or_there}
pub use Rattle.sdb_snapshot.proofs.Forgotten.{get_forgotten, scan_forgotten}
pub use Rattle.sdb_snapshot.proofs.Keys.{value_last}
pub use Rattle.sdb_snapshot.proofs.Owned.{Keeps, kept_get, kept_scan, kept_writes}
pub use Rattle.sdb_snapshot.proofs.SeenRows.{get_own, get_seen, no_row, overlay_is, own_is, own_row}
