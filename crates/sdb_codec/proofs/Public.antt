-- The lemmas of this crate that others cite.
pub use Rattle.sdb_codec.proofs.FieldLaws.{ok_is}
pub use Rattle.sdb_codec.proofs.Loops.{last_of-push}
pub use Rattle.sdb_codec.proofs.RecordLaws.{key_apart, key_round_trip, record_round_trip}
pub use Rattle.sdb_codec.proofs.Texts.{name_utf8, not_name}
