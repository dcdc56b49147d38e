-- The puts of a COMMIT, and the call that makes those of a group.
use Rattle.std.specs.Prelude.{ℤ, List, map}
use Rattle.sdb_record.specs.Types.{Condition, Put, Request, TxId}
use Rattle.sdb_types.specs.declared.record.Condition.TheVariants as condition
use Rattle.sdb_types.specs.Contents.{sent}
use Rattle.sdb_record.specs.declared.write.Write.{Write}
use Rattle.sdb_record.specs.Moved.{version_of, condition_of}
use Rattle.sdb_record.specs.Rolls.{prepared_record, forward_record, state_of_change}

-- Prepare: the prepared record is put, on condition that the base is still there.
abbrev pub prepare_of : TxId → ℤ → Write → Put
prepare_of id now w = record { rec = prepared_record w id now; condition = condition_of (version_of w.base) }

-- a write's record is still as it was prepared
abbrev pub is_as_prepared : TxId → Write → Condition
is_as_prepared id w = condition.Version id (state_of_change w.change)

-- Roll forward: the committed record is put, on condition that the record is as it was prepared.
abbrev pub forward_of : TxId → ℤ → Write → Put
forward_of id now w = record { rec = forward_record (prepared_record w id now) now; condition = is_as_prepared id w }

-- the prepare of a group
abbrev pub prepares_of : TxId → ℤ → List Write → Request
prepares_of id now g = sent (map (prepare_of id now) g)

-- the roll forward of a group
abbrev pub forwards_of : TxId → ℤ → List Write → Request
forwards_of id now g = sent (map (forward_of id now) g)
