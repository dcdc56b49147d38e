-- The lemmas of this crate that others cite.
pub use Rattle.sdb_record.proofs.ColumnLaws.{are_columns-filter, with_columns-none}
pub use Rattle.sdb_record.proofs.Checked.{accepted, has_value-is, need-ok, refuse-ok}
pub use Rattle.sdb_record.proofs.Grouping.{all_at, each_group, group_place, grouped_all, groups_few, in_groups_length, place_in_group, place_in_groups, place_of_grouped, same_writes, taken_all, taken_more, taken_within}
pub use Rattle.sdb_record.proofs.IdLemmas.{id_in_value-fits, id_of_text-id_text, id_of_text-is, reads}
pub use Rattle.sdb_record.proofs.ImageLaws.{checked-state, checked-version, forward-prepared-row, forward-prepared-version, has_moment, id-value, image-is, image-open, image-settled, key-of-id, prepared-unresolved, prepared-unsettled, prepared-version, row-decision, row-key, version-writer}
pub use Rattle.sdb_record.proofs.KeysOnce.{apart_at, are_groups, each_once, groups_once, key_at, write_of_key}
pub use Rattle.sdb_record.proofs.NameLemmas.{name_of_column, same_name-itself, same_name-true, stripped}
pub use Rattle.sdb_record.proofs.RollLaws.{before-kept, before_part-any, forward-accepted, forward-committed, forward-key, forward-state, forward-tombstone, forward-writer, has_int, mark_value}
pub use Rattle.sdb_record.proofs.States.{decision_itself, state_value}
pub use Rattle.sdb_record.proofs.PreparedRecords.{open-left, prepared-base, prepared-columns, prepared-key, time-fits}
pub use Rattle.sdb_record.proofs.Within.{column-before_part}
pub use Rattle.sdb_record.proofs.WriteLaws.{marked-time, with_base}
