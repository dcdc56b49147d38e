-- What is read before anything is written.
use Rattle.std.specs.Prelude.{◌≡◌, ℕ, List, map}
use Rattle.std.specs.List.{AllByRecursion}
use Rattle.sdb_contents.specs.Types.{Entry, Key, Record, TableName}
use Rattle.sdb_stores.specs.Views.{Attached, StoreView, HaveRisen, names_of}
use Rattle.sdb_catalog.specs.Rows.{metadata_table}
use Rattle.sdb_contents.specs.declared.retire_refused.RetireRefused.{RetireRefused}
use Rattle.sdb_contents.specs.declared.retire_refused.RetireRefused.TheVariants as refused
use Rattle.sdb_contents.specs.declared.seen.Seen.{Seen}
use Rattle.sdb_contents.specs.Copying.{IsBlocked, IsSeen}
use Rattle.sdb_contents.specs.Moving.{IsFirstBadMoving, OpensMoving}
use Rattle.sdb_contents.specs.Writes.{IsScanned}

-- The rows of the catalog that a store showed open as these entries.
pub record AreOpened (from to : List ℕ) (at : ℕ) (old : Attached) (es : List Entry) : Type 0 where
  pub rows : List Record
  pub observed : IsScanned at metadata_table rows old
  pub opens : OpensMoving (names_of old.views) from to rows es

-- The row of this key is the first bad one of those that a store showed.
pub record IsBadRow (from to : List ℕ) (at : ℕ) (old : Attached) (place : Key) : Type 0 where
  pub rows : List Record
  pub observed : IsScanned at metadata_table rows old
  pub bad : IsFirstBadMoving (names_of old.views) from to rows place

-- why rows open as no entries
abbrev pub IsBadAmong : List (List ℕ) → List ℕ → List ℕ → List Record → RetireRefused → Type 0
IsBadAmong names from to rows refused.StoreFault = ⊥
IsBadAmong names from to rows (refused.BadRow key) = IsFirstBadMoving names from to rows key
IsBadAmong names from to rows refused.NoMemory = Unit {0}

-- Why the catalog was not read: a fault raised the count of the stores, or a row is bad.
abbrev pub IsUnread : List ℕ → List ℕ → ℕ → Attached → List StoreView → RetireRefused → Type 0
IsUnread from to at old new refused.StoreFault = HaveRisen old.views new
IsUnread from to at old new (refused.BadRow key) = IsBadRow from to at old key
IsUnread from to at old new refused.NoMemory = Unit {0}

-- The two stores showed their rows of each of these tables, and none blocks the copy.
pub record AreSeen (from to : ℕ) (tables : List TableName) (old : Attached) (seen : List Seen) : Type 0 where
  pub named : map (λ s. s.table) seen ≡ tables
  pub each : AllByRecursion (IsSeen from to old) seen

-- Why a table was not read: a fault raised the count of the stores, or a record blocks the copy.
abbrev pub IsUnseen : ℕ → ℕ → List TableName → Attached → List StoreView → RetireRefused → Type 0
IsUnseen from to tables old new refused.StoreFault = HaveRisen old.views new
IsUnseen from to tables old new (refused.BadRow key) = IsBlocked from to old tables key
IsUnseen from to tables old new refused.NoMemory = Unit {0}
