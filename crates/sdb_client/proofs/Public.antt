-- The lemmas of this crate that others cite.
pub use Rattle.sdb_client.proofs.Calls.{last_read, reading_keeps_id, reading_stays_idle}
pub use Rattle.sdb_client.proofs.Left.{given_idle}
pub use Rattle.sdb_client.proofs.Paths.{paths_on, reached_on}
pub use Rattle.sdb_client.proofs.SeenRows.{none_below}
pub use Rattle.sdb_client.proofs.Steps.{names_table, reply_of_step, step_of_reply, step_of_text, text_of_step}
pub use Rattle.sdb_client.proofs.Writable.{may_write}
