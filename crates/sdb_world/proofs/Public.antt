-- The lemmas of this crate that others cite.
pub use Rattle.sdb_world.proofs.Broken.{breaks_after, breaks_more, breaks_still}
