-- The types of other crates that this crate speaks of.
pub use Rattle.sdb_record.specs.declared.access.Read.{Read}
pub use Rattle.sdb_record.specs.declared.access.Scan.{Scan}
pub use Rattle.sdb_record.specs.declared.coordinator.Decided.{Decided}
pub use Rattle.sdb_record.specs.declared.coordinator.Decision.{Decision}
pub use Rattle.sdb_record.specs.declared.meta.Meta.{Meta}
pub use Rattle.sdb_record.specs.declared.write.Write.{Write}
pub use Rattle.sdb_types.specs.declared.key.Key.{Key}
pub use Rattle.sdb_types.specs.declared.record.Condition.{Condition}
pub use Rattle.sdb_types.specs.declared.record.Put.{Put}
pub use Rattle.sdb_types.specs.declared.record.Record.{Record}
pub use Rattle.sdb_types.specs.declared.record.Reply.{Reply}
pub use Rattle.sdb_types.specs.declared.record.Request.{Request}
pub use Rattle.sdb_types.specs.declared.record.Span.{Span}
pub use Rattle.sdb_types.specs.declared.record.State.{State}
pub use Rattle.sdb_types.specs.declared.txid.TxId.{TxId}
