-- The lemmas of this crate that others cite.
pub use Rattle.sdb_shell.proofs.LoadSteps.{starved_after}
pub use Rattle.sdb_shell.proofs.Points.{map_ok}
