-- The types of other crates that this crate speaks of.
pub use Rattle.sdb_phases.specs.declared.step.AbortPhase.{AbortPhase}
pub use Rattle.sdb_phases.specs.declared.step.Outcome.{Outcome}
pub use Rattle.sdb_phases.specs.declared.step.RecoverPhase.{RecoverPhase}
pub use Rattle.sdb_phases.specs.declared.step.RecoverStep.{RecoverStep}
pub use Rattle.sdb_phases.specs.declared.step.ValidateStep.{ValidateStep}
pub use Rattle.sdb_record.specs.declared.access.Access.{Access}
pub use Rattle.sdb_record.specs.declared.coordinator.Decided.{Decided}
pub use Rattle.sdb_record.specs.declared.meta.Meta.{Meta}
pub use Rattle.sdb_types.specs.declared.key.Key.{Key}
pub use Rattle.sdb_types.specs.declared.record.Record.{Record}
pub use Rattle.sdb_types.specs.declared.record.Reply.{Reply}
pub use Rattle.sdb_types.specs.declared.record.Request.{Request}
pub use Rattle.sdb_types.specs.declared.record.Span.{Span}
pub use Rattle.sdb_types.specs.declared.txid.TxId.{TxId}
pub use Rattle.sdb_types.specs.declared.value.Value.{Value}
