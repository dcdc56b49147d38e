-- What is committed, and the calls that write it.
use Rattle.std.specs.Prelude.{ℕ, ℤ, List, length, map, take}
use Rattle.sdb_phases.specs.Types.{Read, Request, Scan, TxId, Write}
use Rattle.sdb_types.specs.declared.record.Condition.TheVariants as condition
use Rattle.sdb_types.specs.declared.record.Request.TheVariants as ask
use Rattle.sdb_record.specs.declared.coordinator.Decision.TheVariants as decision
use Rattle.sdb_record.specs.Coordinator.{coordinator_key_of, coordinator_row_of}
use Rattle.sdb_record.specs.Groups.{grouped, in_groups, ungrouped}
pub use Rattle.sdb_record.specs.Puts.{forward_of, forwards_of, is_as_prepared, prepare_of, prepares_of}
use Rattle.sdb_record.specs.Rolls.{undo}

-- A transaction as its COMMIT takes it, at a moment: what it writes, in order of first writing; the keys that it read by
-- gets, in order of first reading; the spans that it scanned.
pub record Work : Type 0 where
  pub id : TxId
  pub now : ℤ
  pub writes : List Write
  pub reads : List Read
  pub scans : List Scan

-- Roll back: the base again, on condition that the record is as it was prepared.
abbrev pub back_of : TxId → Write → Request
back_of id w = undo (is_as_prepared id w) w.key w.base

-- The deciding put: the coordinator's row COMMITTED, on condition that there is none.
abbrev pub decide_of : TxId → ℤ → Request
decide_of id now = ask.PutIf (coordinator_row_of id decision.Committed now) condition.Absent

-- The row ABORTED, on condition that there is none.
abbrev pub abort_of : TxId → ℤ → Request
abort_of id now = ask.PutIf (coordinator_row_of id decision.Aborted now) condition.Absent

-- The look at the coordinator's row.
abbrev pub look_of : TxId → Request
look_of id = ask.Get (coordinator_key_of id)

-- Prepares and roll forwards take a call for each group.
abbrev pub prepares : Work → List Request
prepares p = map (prepares_of p.id p.now) (grouped p.writes)

abbrev pub forwards : Work → List Request
forwards p = map (forwards_of p.id p.now) (grouped p.writes)

-- A roll back takes a call for each write, in the order of the groups.
abbrev pub backs : Work → List Request
backs p = map (back_of p.id) (in_groups p.writes)

-- how many groups are written
abbrev pub groups_of : Work → ℕ
groups_of p = length (grouped p.writes)

-- how many writes the first groups have
abbrev pub writes_before : Work → ℕ → ℕ
writes_before p i = length (ungrouped (take i (grouped p.writes)))
