-- The lemmas of this crate that others cite.
pub use Rattle.sdb_exec.proofs.Fits.{changes_fit}
pub use Rattle.sdb_exec.proofs.Fixed.{after_values}
pub use Rattle.sdb_exec.proofs.Laid.{by_key, find-mapped, find-sieved, get-with_row, keyed, mapped_at, sieved_at}
pub use Rattle.sdb_exec.proofs.Local.{agree_rows, found_at, ordered, passing}
pub use Rattle.sdb_exec.proofs.Places.{named_is_table}
pub use Rattle.sdb_exec.proofs.Sorting.{sorts}
pub use Rattle.sdb_exec.proofs.Whole.{all_shaped, fitting_is_exec, own}
