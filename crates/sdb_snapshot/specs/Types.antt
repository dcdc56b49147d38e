-- The types of other crates that this crate speaks of.
pub use Rattle.sdb_record.specs.declared.access.Access.{Access}
pub use Rattle.sdb_record.specs.declared.access.Image.{Image}
pub use Rattle.sdb_record.specs.declared.access.Read.{Read}
pub use Rattle.sdb_record.specs.declared.access.Scan.{Scan}
pub use Rattle.sdb_record.specs.declared.write.Change.{Change}
pub use Rattle.sdb_record.specs.declared.write.Keyed.{Keyed}
pub use Rattle.sdb_record.specs.declared.write.Write.{Write}
pub use Rattle.sdb_types.specs.declared.key.Key.{Key}
pub use Rattle.sdb_types.specs.declared.key.TableName.{TableName}
pub use Rattle.sdb_types.specs.declared.pair.Pair.{Pair}
pub use Rattle.sdb_types.specs.declared.record.Record.{Record}
pub use Rattle.sdb_types.specs.declared.record.Span.{Span}
pub use Rattle.sdb_types.specs.declared.value.Value.{Value}
pub use Rattle.std.specs.declared.cmp.Ordering.{Ordering}
