-- Why a VACUUM has ended.
use Rattle.std.specs.Prelude.{◌≡◌, ◌⊎◌, ◌&&◌, Bool, true, not, List, [], ◌∷◌}
use Rattle.std.specs.List.{list_any}
use Rattle.std.specs.Ordering.{is_eq}
use Rattle.sdb_vacuum.specs.Types.{Key, Record, TxId}
use Rattle.sdb_types.specs.Order.{key_cmp}
use Rattle.sdb_record.specs.Coordinator.{coordinator_key_of}
use Rattle.sdb_record.specs.Meta.{is_transactional}
use Rattle.sdb_phases.specs.CommitLaws.{holds_malformed}
use Rattle.sdb_phases.specs.Recover.{Received}
use Rattle.sdb_vacuum.specs.Calls.{rows_scanned}

-- a row of that key that is no record of a transaction
abbrev pub is_bad_row : Key → Record → Bool
is_bad_row key r = is_eq (key_cmp key r.key) && not (is_transactional r)

-- a scan found such a row
abbrev pub IsRowBad : Key → List Received → Type 0
IsRowBad key past = list_any (is_bad_row key) (rows_scanned past) ≡ true

-- the newest reply holds a record at a transaction's coordinator key that isn't a well formed row
abbrev pub HoldsBadRow : Key → List Received → Type 0
HoldsBadRow key [] = ⊥
HoldsBadRow key (c ∷ past) = (id : TxId) × (key ≡ coordinator_key_of id) × (holds_malformed id c.reply ≡ true)

abbrev pub IsBadAt : Key → List Received → Type 0
IsBadAt key past = IsRowBad key past ⊎ HoldsBadRow key past
