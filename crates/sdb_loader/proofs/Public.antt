-- The lemmas of this crate that others cite.
pub use Rattle.sdb_loader.proofs.Names.{good_first, in_order_of, named_is, text_of}
pub use Rattle.sdb_loader.proofs.Values.{are_short-columns_in}
pub use Rattle.sdb_loader.proofs.WordLaws.{order_named-behind, table_named-text}
