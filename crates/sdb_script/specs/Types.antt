-- The types of other crates that this crate speaks of.
pub use Rattle.sdb_loader.specs.declared.fault.SchemaFault.{SchemaFault}
pub use Rattle.sdb_model.specs.declared.script.Act.{Act}
pub use Rattle.sdb_model.specs.declared.script.Move.{Move}
pub use Rattle.sdb_model.specs.declared.script.Script.{Script}
pub use Rattle.sdb_model.specs.declared.script.ScriptClient.{ScriptClient}
pub use Rattle.sdb_schema.specs.declared.table.Column.{Column}
pub use Rattle.sdb_schema.specs.declared.table.Direction.{Direction}
pub use Rattle.sdb_schema.specs.declared.table.Kind.{Kind}
pub use Rattle.sdb_schema.specs.declared.table.Order.{Order}
pub use Rattle.sdb_schema.specs.declared.table.Table.{Table}
pub use Rattle.sdb_types.specs.declared.key.TableName.{TableName}
pub use Rattle.sdb_types.specs.declared.place.Place.{Place}
