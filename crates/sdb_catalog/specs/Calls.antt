-- Calls on the store of the catalog's rows: the first one.
use Rattle.std.specs.Prelude.{◌≡◌, ◌⊎◌, ℕ, ◌≤◌, List, [], ◌∷◌, drop, None}
use Rattle.std.specs.FinMap.{empty}
use Rattle.std.specs.Option.{option_or}
use Rattle.sdb_catalog.specs.Types.{Key, Record, Reply, Request, Span, Table}
use Rattle.sdb_types.specs.declared.record.Request.TheVariants.{Scan}
use Rattle.sdb_types.specs.declared.record.Reply.TheVariants.{Rows}
use Rattle.sdb_types.specs.Contents.{Contents, after}
use Rattle.sdb_stores.specs.Views.{Attached, StoreView, IsCallAt, HaveRisen, names_of, route_of, total_faults}
use Rattle.sdb_catalog.specs.declared.entry.Entry.{Entry}
use Rattle.sdb_catalog.specs.declared.refused.CatalogRefused.{CatalogRefused}
use Rattle.sdb_catalog.specs.declared.refused.CatalogRefused.TheVariants as refused
use Rattle.sdb_catalog.specs.Rows.{metadata_table}
use Rattle.sdb_catalog.specs.Opened.{Opens, IsFirstBad, store_in, tables_of}

-- the same stores, once they show this
abbrev pub with_states : Attached → List StoreView → Attached
with_states stores store_contents = record { places = stores.places; views = store_contents; known = stores.known }

-- One call on the first store, which answers and changes as a map does where it had known contents at the beginning. Every other
-- store stays as it was.
abbrev pub Called : Request → Reply → Attached → List StoreView → Type 0
Called q r old new = IsCallAt 0 q r old (with_states old new)

-- the whole table of the catalog's rows
abbrev pub metadata_span : Span
metadata_span = record { table = metadata_table; partition = None }

-- what the first store holds
abbrev pub first_contents : List StoreView → Contents
first_contents [] = empty
first_contents (s ∷ ss) = s.contents

-- The first store holds what it held, where its contents are known.
abbrev pub ContentsAreUnchanged : Attached → Attached → Type 0
ContentsAreUnchanged old new = old.known 0 → first_contents new.views ≡ first_contents old.views

-- The first store holds what it held, or what the request makes of that, where its contents are known.
abbrev pub MayChange : Request → Attached → Attached → Type 0
MayChange q old new = old.known 0 → (first_contents new.views ≡ first_contents old.views) ⊎ (first_contents new.views ≡ after q (first_contents old.views))

-- Calls change no name and no other store, faults add up, and known contents stay known.
pub record GoOn (old new : Attached) : Type 0 where
  pub names : names_of new.views ≡ names_of old.views
  pub others : drop 1 new.views ≡ drop 1 old.views
  pub counted : total_faults old.views ≤ total_faults new.views
  pub where_known : (at : ℕ) → old.known at → new.known at

-- why a call gave no reply to go on with
abbrev pub IsStopped : List StoreView → List StoreView → CatalogRefused → Type 0
IsStopped old new refused.StoreFault = HaveRisen old new
IsStopped old new (refused.BadRow key) = ⊥
IsStopped old new refused.NoMemory = Unit {0}

-- The rows that one scan of the first store showed open as these entries.
pub record IsRead (old : Attached) (new : List StoreView) (es : List Entry) : Type 0 where
  pub rows : List Record
  pub scanned : Called (Scan metadata_span) (Rows rows) old new
  pub opens : Opens (names_of old.views) rows es

-- The row of this key is the first bad one of those that one scan of the first store showed.
pub record IsReadBad (old : Attached) (new : List StoreView) (key : Key) : Type 0 where
  pub rows : List Record
  pub scanned : Called (Scan metadata_span) (Rows rows) old new
  pub bad : IsFirstBad (names_of old.views) rows key

-- Why the catalog was not read: a fault raised the count of the stores, or a row is bad.
abbrev pub IsUnread : Attached → List StoreView → CatalogRefused → Type 0
IsUnread old new refused.StoreFault = HaveRisen old.views new
IsUnread old new (refused.BadRow key) = IsReadBad old new key
IsUnread old new refused.NoMemory = Unit {0}

-- Each namespace keeps its place, and otherwise is placed on the store that keeps it.
abbrev pub AreRoutedBy : List Entry → Attached → Attached → Type 0
AreRoutedBy entries old new = (ns : List ℕ) → route_of ns new.places ≡ option_or (route_of ns old.places) (store_in entries ns)

-- The catalog was opened: these are the tables of its rows, and each namespace is placed on the store that keeps it.
pub record IsOpened (old new : Attached) (catalog : List Table) : Type 0 where
  pub entries : List Entry
  pub read : IsRead old new.views entries
  pub tables : catalog ≡ tables_of entries
  pub placed : (ns : List ℕ) → route_of ns new.places ≡ store_in entries ns
