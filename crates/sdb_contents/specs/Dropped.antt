-- A store moved, and then dropped.
use Rattle.std.specs.Prelude.{◌≡◌, ◌≢◌, ◌<◌, ℕ, List, Some, Contains, IsSome, length, slice_get}
use Rattle.sdb_contents.specs.Types.{Entry, Key, Place, Table}
use Rattle.sdb_types.specs.Contents.{Contents, rows_in}
use Rattle.sdb_stores.specs.Views.{Attached, StoreView, IsDropped, index_at, index_in, names_of}
use Rattle.sdb_catalog.specs.Calls.{first_contents, metadata_span, with_states}
use Rattle.sdb_catalog.specs.Known.{IsCatalogIn}
use Rattle.sdb_catalog.specs.Opened.{Opens, tables_of}
use Rattle.sdb_contents.specs.Imaged.{IsOfTable, image_by, record_in_store, record_before}
use Rattle.sdb_contents.specs.Moving.{OpensMoving}
use Rattle.sdb_contents.specs.Retired.{AreAllMoved, OthersArePreserved, Sides}
use Rattle.sdb_contents.specs.Writes.{GoOn, contents_at}

-- The store `from` may be given up for `to`, among stores of these names: both are attached, they differ, and `from` isn't the first.
pub record MayRetire (names : List (List ℕ)) (s : Sides) : Type 0 where
  pub from : Contains names s.from
  pub to : Contains names s.to
  pub apart : s.from ≢ s.to
  pub stays : slice_get names 0 ≢ Some s.from

-- Everything was moved, which made these of the stores, and then the store was dropped.
pub record IsRetired (s : Sides) (n : ℕ) (old new : Attached) : Type 0 where
  pub mid : List StoreView
  pub moved : AreAllMoved s n old (with_states old mid)
  pub others : OthersArePreserved s old (with_states old mid)
  pub goes : GoOn old (with_states old mid)
  pub dropped : IsDropped s.from (with_states old mid) new

-- All contents are known.
abbrev pub AllKnown : Attached → Type 0
AllKnown stores = (i : ℕ) → i < length stores.views → stores.known i

-- At each key of the catalog's tables the committed image is the one of before, where tables of moving namespaces are read in `from`.
abbrev pub ImagesArePreserved : Sides → Attached → Attached → List Entry → List Entry → Type 0
ImagesArePreserved s old new before now = (key : Key) → IsOfTable before key → image_by (record_in_store new now) key ≡ image_by (record_before s old before) key

-- The rows of the catalog open over the stores that are left, and give the tables that they gave before, whichever store they named, and
-- these the images that they had.
pub record OpensTheSame (s : Sides) (old new : Attached) : Type 0 where
  pub before : List Entry
  pub now : List Entry
  pub opened : OpensMoving (names_of old.views) s.from s.to (rows_in metadata_span (first_contents old.views)) before
  pub opens : Opens (names_of new.views) (rows_in metadata_span (first_contents new.views)) now
  pub tables : tables_of now ≡ tables_of before
  pub images : AllKnown old → ImagesArePreserved s old new before now

-- An opening of the catalog over stores of these names, of which the first holds these contents, and what it returned.
pub record Reopening : Type 0 where
  pub names : List (List ℕ)
  pub contents : Contents
  pub tables : List Table
  pub places : List Place

-- The rows open as entries that give the same tables as the entries of before, and the opening returned a catalog.
pub record IsReopened (r : Reopening) (before : List Entry) : Type 0 where
  pub now : List Entry
  pub opens : Opens r.names (rows_in metadata_span r.contents) now
  pub same : tables_of now ≡ tables_of before
  pub returned : IsCatalogIn r.names r.contents r.tables r.places

-- The store of that name is attached, and holds what it held, where that is known.
pub record HoldsStill (name : List ℕ) (old new : Attached) : Type 0 where
  pub attached : IsSome (index_in new name)
  pub contents : old.known (index_at old name) → contents_at new.views (index_at new name) ≡ contents_at old.views (index_at old name)
