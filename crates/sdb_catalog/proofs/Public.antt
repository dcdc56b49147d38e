-- The lemmas of this crate that others cite.
pub use Rattle.sdb_catalog.proofs.Again.{defined, fields_again, kind_again, kinds_again, refused_none, rising_columns, sound, table_again}
pub use Rattle.sdb_catalog.proofs.Altering.{next_fits, version_there}
pub use Rattle.sdb_catalog.proofs.Calling.{left_by}
pub use Rattle.sdb_catalog.proofs.Catalogs.{key_of_row, own_ns}
pub use Rattle.sdb_catalog.proofs.Known.{passed_on}
pub use Rattle.sdb_catalog.proofs.Members.{AreRead, keys_rise, members_of, members_read}
pub use Rattle.sdb_catalog.proofs.OneReading.{one_reading}
pub use Rattle.sdb_catalog.proofs.Opening.{attached_placed, rows_more}
pub use Rattle.sdb_catalog.proofs.Reading.{kept_rises}
pub use Rattle.sdb_catalog.proofs.Texts.{all_numbered, outline_read, printed_read, shallow}
