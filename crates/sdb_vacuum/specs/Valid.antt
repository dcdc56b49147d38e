-- What a VACUUM resolves and removes, after any replies.
use Rattle.std.specs.Prelude.{◌≡◌, true, Ok}
use Rattle.sdb_record.specs.Meta.{checked, is_unresolved}
use Rattle.sdb_record.specs.Rolls.{IsBaseOf, is_tombstone}
use Rattle.sdb_txn.specs.Valid.{IsPhase}
use Rattle.sdb_vacuum.specs.Vacuum.{VacuumStage, Scanning, Resolving, Removing, Over}

-- The record that is resolved is an unresolved one, and the one that is removed is a committed record that deletes its row.
abbrev pub IsValid : VacuumStage → Type 0
IsValid (Scanning span) = Unit {0}
IsValid (Resolving rec meta p left) = (is_unresolved rec ≡ true) × (checked rec.columns ≡ Ok meta) × IsPhase p
IsValid (Removing b left) = IsBaseOf b.key b × (is_tombstone b ≡ true)
IsValid Over = Unit {0}
