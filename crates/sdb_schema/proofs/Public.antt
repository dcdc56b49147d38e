-- The lemmas of this crate that others cite.
pub use Rattle.sdb_schema.proofs.CatalogLaws.{with_table-is}
pub use Rattle.sdb_schema.proofs.ColumnOrder.{in_order-rising}
pub use Rattle.sdb_schema.proofs.Grown.{fits_still, grown_is_catalog, grown_is_table, new_column, only_first, others_same}
pub use Rattle.sdb_schema.proofs.OrderLaws.{row-total}
pub use Rattle.sdb_schema.proofs.TableLaws.{made}
