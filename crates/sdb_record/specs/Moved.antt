-- Versions, and whether what was read is still there.
use Rattle.std.specs.Prelude.{◌≡◌, Bool, true, false, ◌==◌, Option, Some, None}
use Rattle.sdb_record.specs.Types.{Condition, Record, TxId}
use Rattle.sdb_types.specs.declared.record.State.TheVariants as state
use Rattle.sdb_types.specs.declared.record.Condition.TheVariants as condition
use Rattle.sdb_types.specs.Contents.{holds}
use Rattle.sdb_record.specs.Meta.{id_in}

-- the version of what is at a key: the transaction that wrote it, or none where there is no record
abbrev pub version_of : Option Record → Option TxId
version_of None = None
version_of (Some r) = id_in r.columns

abbrev pub same_version : Option TxId → Option TxId → Bool
same_version None None = true
same_version None (Some b) = false
same_version (Some a) None = false
same_version (Some a) (Some b) = a.0 == b.0

-- the condition that a version that was read is still there: the committed record of that transaction, or none
abbrev pub condition_of : Option TxId → Condition
condition_of None = condition.Absent
condition_of (Some id) = condition.Version id state.Committed

-- What is found at a key is no longer what was read there: with a version, it is not that transaction's record in
-- state 3; with none, there is a record.
abbrev pub IsChanged : Option Record → Option TxId → Type 0
IsChanged found version = holds (condition_of version) found ≡ false

abbrev pub is_unchanged : Option Record → Option TxId → Bool
is_unchanged found version = holds (condition_of version) found
