-- The types of other crates that this crate speaks of.
pub use Rattle.sdb_model.specs.declared.answer.Answer.{Answer}
pub use Rattle.sdb_model.specs.declared.event.Altered.{Altered}
pub use Rattle.sdb_model.specs.declared.event.Event.{Event}
pub use Rattle.sdb_model.specs.declared.event.How.{How}
pub use Rattle.sdb_model.specs.declared.event.Outcome.{Outcome}
pub use Rattle.sdb_model.specs.declared.event.Point.{Point}
pub use Rattle.sdb_report.specs.declared.refused.ReportRefused.{ReportRefused}
pub use Rattle.sdb_schema.specs.declared.table.Kind.{Kind}
pub use Rattle.sdb_types.specs.declared.key.Key.{Key}
pub use Rattle.sdb_types.specs.declared.key.TableName.{TableName}
pub use Rattle.sdb_types.specs.declared.record.Condition.{Condition}
pub use Rattle.sdb_types.specs.declared.record.Record.{Record}
pub use Rattle.sdb_types.specs.declared.record.Reply.{Reply}
pub use Rattle.sdb_types.specs.declared.record.Request.{Request}
