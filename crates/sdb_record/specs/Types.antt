-- The types of other crates that this crate speaks of.
pub use Rattle.sdb_types.specs.declared.key.Key.{Key}
pub use Rattle.sdb_types.specs.declared.key.TableName.{TableName}
pub use Rattle.sdb_types.specs.declared.pair.Pair.{Pair}
pub use Rattle.sdb_types.specs.declared.record.Condition.{Condition}
pub use Rattle.sdb_types.specs.declared.record.Put.{Put}
pub use Rattle.sdb_types.specs.declared.record.Record.{Record}
pub use Rattle.sdb_types.specs.declared.record.Request.{Request}
pub use Rattle.sdb_types.specs.declared.record.State.{State}
pub use Rattle.sdb_types.specs.declared.txid.TxId.{TxId}
pub use Rattle.sdb_types.specs.declared.value.Value.{Value}
