-- The types of other crates that this crate speaks of.
pub use Rattle.sdb_phases.specs.declared.check.Check.{Check}
pub use Rattle.sdb_phases.specs.declared.check.Expected.{Expected}
pub use Rattle.sdb_phases.specs.declared.check.Target.{Target}
pub use Rattle.sdb_phases.specs.declared.check.Wanted.{Wanted}
pub use Rattle.sdb_phases.specs.declared.step.ValidateStep.{ValidateStep}
pub use Rattle.sdb_record.specs.declared.access.Read.{Read}
pub use Rattle.sdb_record.specs.declared.access.Scan.{Scan}
pub use Rattle.sdb_record.specs.declared.write.Write.{Write}
pub use Rattle.sdb_types.specs.declared.key.Key.{Key}
pub use Rattle.sdb_types.specs.declared.record.Record.{Record}
pub use Rattle.sdb_types.specs.declared.record.Span.{Span}
pub use Rattle.sdb_types.specs.declared.txid.TxId.{TxId}
pub use Rattle.std.specs.declared.cmp.Ordering.{Ordering}
