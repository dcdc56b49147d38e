-- The types of other crates that this crate speaks of.
pub use Rattle.sdb_types.specs.declared.key.Key.{Key}
pub use Rattle.sdb_types.specs.declared.key.TableName.{TableName}
pub use Rattle.sdb_types.specs.declared.pair.Pair.{Pair}
pub use Rattle.sdb_types.specs.declared.record.Condition.{Condition}
pub use Rattle.sdb_types.specs.declared.record.Put.{Put}
pub use Rattle.sdb_types.specs.declared.record.Record.{Record}
pub use Rattle.sdb_types.specs.declared.record.Reply.{Reply}
pub use Rattle.sdb_types.specs.declared.record.Request.{Request}
pub use Rattle.sdb_types.specs.declared.record.Span.{Span}
pub use Rattle.sqlite.specs.declared.error.Error.{Error}
pub use Rattle.sqlite.specs.declared.types.Value.{Value}
pub use Rattle.std.specs.declared.alloc.Global.{Global}
pub use Rattle.std.specs.declared.cmp.Ordering.{Ordering}
