-- The lemmas of this crate that others cite.
pub use Rattle.sdb_script.proofs.OneLine.{json_may, may_name}
pub use Rattle.sdb_script.proofs.Pieces.{bind_is, map_is, no_some}
