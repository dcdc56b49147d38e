-- A catalog that is written where there was no row of one, and what is then read of it.
use Rattle.std.specs.Prelude.{◌≡◌, ℕ, true, List, [], map, Some, slice_get, Contains}
use Rattle.std.specs.List.{list_all}
use Rattle.sdb_types.specs.Contents.{rows_in}
use Rattle.sdb_catalog.specs.Types.{Place, Table}
use Rattle.sdb_loader.specs.Words.{names_table}
use Rattle.sdb_stores.specs.Views.{Attached, StoreView, names_of, route_of}
use Rattle.sdb_catalog.specs.declared.entry.Entry.{Entry}
use Rattle.sdb_catalog.specs.Calls.{first_contents, metadata_span}
use Rattle.sdb_catalog.specs.Opened.{Opens, is_attached, tables_of}
use Rattle.sdb_catalog.specs.Written.{entry_for, store_for, written_tables}

-- the entries of a catalog that is written where there was no row: each namespace in the store of its place, or in the first
abbrev pub first_entries : List Place → List ℕ → List Table → List Entry
first_entries places first catalog = map (entry_for [] places first) (written_tables catalog)

-- The first store holds no row of a catalog. Each table of this one has a name that a schema may have, and each place names an attached
-- store.
pub record IsFresh (stores : List StoreView) (places : List Place) (catalog : List Table) : Type 0 where
  pub none : rows_in metadata_span (first_contents stores) ≡ []
  pub named : list_all (λ t. names_table t.name.ns t.name.table) catalog ≡ true
  pub attached : list_all (λ p. is_attached (names_of stores) p.store) places ≡ true

-- The rows that the first store holds open as these entries of a catalog, and the tables of the entries make the catalog.
pub record IsStoredCatalog (stores : List StoreView) (places : List Place) (catalog : List Table) : Type 0 where
  pub first : List ℕ
  pub named : slice_get (names_of stores) 0 ≡ Some first
  pub rows : Opens (names_of stores) (rows_in metadata_span (first_contents stores)) (first_entries places first catalog)
  pub tables : tables_of (first_entries places first catalog) ≡ catalog

-- Where the first store has known contents and held no row of a catalog, it now keeps this one.
abbrev pub IsNowStored : Attached → Attached → List Place → List Table → Type 0
IsNowStored old new places catalog = old.known 0 → IsFresh old.views places catalog → IsStoredCatalog new.views places catalog

-- What was opened is this catalog, and the namespace of each of its tables, and the coordinator's, is placed on the store of its place
-- among these, or on the first.
pub record IsReadBack (stores : List StoreView) (places : List Place) (catalog opened : List Table) (placed_now : List Place) : Type 0 where
  pub same : opened ≡ catalog
  pub first : List ℕ
  pub named : slice_get (names_of stores) 0 ≡ Some first
  pub placed : (t : Table) → Contains (written_tables catalog) t → route_of t.name.ns placed_now ≡ Some (store_for [] places first t.name.ns)

-- What was opened is the catalog that the first store kept, whichever it is.
abbrev pub IsAsStored : List StoreView → List Table → List Place → Type 0
IsAsStored stores opened placed_now = (places : List Place) (catalog : List Table) → IsStoredCatalog stores places catalog → IsReadBack stores places catalog opened placed_now
