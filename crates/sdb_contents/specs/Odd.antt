-- Records that break the rules of their tables.
use Rattle.std.specs.Prelude.{◌≡◌, ◌⊎◌, true, false, Contains, List, [], ◌∷◌, Option, Some, None}
use Rattle.sdb_contents.specs.Types.{Decided, Key, Place, Record, Table, TxId}
use Rattle.sdb_record.specs.Coordinator.{coordinator_table, is_coordinator_table}
use Rattle.sdb_model.specs.Events.{StoreContents, stored_at}
use Rattle.sdb_model.specs.Images.{decision_at}
use Rattle.sdb_contents.specs.Opening.{records_of}
use Rattle.sdb_contents.specs.Decided.{is_decided}
use Rattle.sdb_contents.specs.Dumped.{is_well_formed}
use Rattle.sdb_contents.specs.Refused.{first_unlike}

-- A record of a table of the catalog isn't well formed under decisions on transactions.
pub record IsIllFormedOf (catalog : List Table) (decide : TxId → Option Decided) (r : Record) : Type 0 where
  pub table : Table
  pub listed : Contains catalog table
  pub named : table.name ≡ r.key.table
  pub ill_formed : is_well_formed decide table r ≡ false

-- A record of a catalog's table, or a row of the coordinator's table, that isn't well formed.
abbrev pub IsOdd : List Table → (TxId → Option Decided) → Record → Type 0
IsOdd catalog decide r = IsIllFormedOf catalog decide r ⊎ ((is_coordinator_table r.key.table ≡ true) × (is_decided r ≡ false))

-- Such a record is at a key.
pub record IsOddAt (catalog : List Table) (places : List Place) (store_contents : List StoreContents) (decide : TxId → Option Decided) (key : Key) : Type 0 where
  pub found : Record
  pub agrees : stored_at places store_contents key ≡ Some found
  pub odd : IsOdd catalog decide found

abbrev pub first_of : Option Key → Option Key → Option Key
first_of None other = other
first_of (Some key) other = Some key

-- the first key that tables give
abbrev pub first_in : (Table → Option Key) → List Table → Option Key
first_in f [] = None
first_in f (t ∷ ts) = first_of (f t) (first_in f ts)

-- the key of the first record of a table that isn't well formed under decisions on transactions
abbrev pub first_ill_formed : (TxId → Option Decided) → List Place → List StoreContents → Table → Option Key
first_ill_formed decide places store_contents t = first_unlike (is_well_formed decide t) (records_of places store_contents t.name)

-- the key of the first such record, where the coordinator's table is scanned first, and then each table of the catalog
abbrev pub first_odd : List Table → List Place → List StoreContents → Option Key
first_odd catalog places store_contents =
    first_of (first_unlike is_decided (records_of places store_contents coordinator_table)) (first_in (first_ill_formed (decision_at places store_contents) places store_contents) catalog)
