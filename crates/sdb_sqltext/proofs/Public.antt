-- The lemmas of this crate that others cite.
pub use Rattle.sdb_sqltext.proofs.AllPrinted.{statement_read}
pub use Rattle.sdb_sqltext.proofs.Clauses.{not_both, one_refusal, one_statement, reads_by, refuses_by}
pub use Rattle.sdb_sqltext.proofs.OneWord.{begin_read, commit_read, rollback_read, vacuum_read}
