-- The lemmas of this crate that others cite.
pub use Rattle.sdb_data.proofs.NamesAgain.{has-partition, keys-known, kinds}
pub use Rattle.sdb_data.proofs.Numbers.{big-fits, int-small}
