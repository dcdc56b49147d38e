-- The lemmas of this crate that others cite.
pub use Rattle.sdb_types.proofs.Basics.{all_each, all_lack, all_last, and_false, and_parts, and_true, append_all, around_at, around_behind, assoc, at_byte, at_most_nat, below, bind_some, both_t, by_option, by_test, clash, cond_by, cond_some, decides, done, drop_next, either, eq_of, fails_second, false_by, false_true, first_t, front_passes, id_fits, itself, lacks, length_more, less_of, longer, lt_of, map_last, nat_at_most, none_before, none_some, not_true, one_more, one_of, onto, or_else, or_false, or_neither, or_none, or_second, or_true, second_t, some_is, suc_of, t_both, take_all, truth}
pub use Rattle.sdb_types.proofs.Batches.{all_put_at, all_put_more, all_put_outside, batch_can, insert_back, left_outside, once_parts, record_at-insert, record_at-key, remove_back, unmet_aside, unmet_at, unmet_is, unmet_more}
pub use Rattle.sdb_types.proofs.Bools.{and_both, and_first, and_second, or_first}
pub use Rattle.sdb_types.proofs.ColumnLemmas.{by_order, with_column-are_columns}
pub use Rattle.sdb_types.proofs.ColumnMap.{column-put_same, tail_above, tail_columns, turned}
pub use Rattle.sdb_types.proofs.KeyOrder.{by_text, equal_texts, key_exact, key_total, name_exact, name_total, parts, starts_trans, table_exact, table_total}
pub use Rattle.sdb_types.proofs.Keys.{same_key_exact, same_key_is, same_key_of, same_key_self, same_key_decides, same_key_turned, tests}
pub use Rattle.sdb_types.proofs.Pieces.{appends_more, appends_piece, takes_more}
pub use Rattle.sdb_types.proofs.Replies.{rows_in-are_rows_of}
pub use Rattle.sdb_types.proofs.SpanRows.{find_span, same_rows}
pub use Rattle.sdb_types.proofs.TxIdLemmas.{id_text_parses, is_text_value}
pub use Rattle.sdb_types.proofs.Words.{no_dot, part_small, start_part}
pub use Rattle.sdb_types.proofs.Prefixes.{after_front-append, before-is_name, is_front, no_front, rest-is_name, strips}
