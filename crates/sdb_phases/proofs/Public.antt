-- The lemmas of this crate that others cite.
pub use Rattle.sdb_phases.proofs.DecideRows.{by_rows, by_steps}
pub use Rattle.sdb_phases.proofs.DecidingPut.{asks_deciding_put}
pub use Rattle.sdb_phases.proofs.Derived.{at_most, ends_exactly}
pub use Rattle.sdb_phases.proofs.Formed.{copied_formed, pending_formed, recover_formed, some_formed}
pub use Rattle.sdb_phases.proofs.Groups.{backs_length, few_groups, puts_all, puts_next, puts_sent, touched_within, writes_more, writes_within}
pub use Rattle.sdb_phases.proofs.Refusals.{more_applied, refused_ends}
pub use Rattle.sdb_phases.proofs.RecoverCalls.{GoesOn, IsNearer, one_left, recover_goes, recover_nearer}
pub use Rattle.sdb_phases.proofs.RecoverRows.{by_expiry, by_row, by_rows as by_rows_recover_rows, by_steps as by_steps_recover_rows, no_image_of_none, no_image_of_row}
pub use Rattle.sdb_phases.proofs.RecoverInvariants.{recover_invariant}
pub use Rattle.sdb_phases.proofs.Rows.{unmet_row}
pub use Rattle.sdb_phases.proofs.CommitInvariants.{row_malformed}
pub use Rattle.sdb_phases.proofs.Starved.{starved-pending}
