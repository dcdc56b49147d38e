-- The lemmas of this crate that others cite.
pub use Rattle.sdb_report.proofs.LineLaws.{IsLine, decimal_one, event_one, id_one, lines_joined, row_one}
pub use Rattle.sdb_report.proofs.PartLaws.{one_text_of}
