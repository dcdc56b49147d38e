-- Catalogs in a first store of known contents: what its rows open as, and what is written to it.
use Rattle.std.specs.Prelude.{◌≡◌, ◌⊎◌, ℕ, Bool, true, false, List, [], ◌∷◌, ◌++◌, map, filter, flat_map, take, Option, Some, None, if◌then◌else◌}
use Rattle.std.specs.FinMap.{insert}
use Rattle.std.specs.Option.{option_map_or}
use Rattle.std.specs.Str.{bytes_eq}
use Rattle.sdb_catalog.specs.Types.{Key, Place, Record, Table}
use Rattle.sdb_types.specs.Contents.{Contents, record_at, rows_in}
use Rattle.sdb_stores.specs.Views.{Attached, names_of, route_of}
use Rattle.sdb_catalog.specs.declared.entry.Entry.{Entry}
use Rattle.sdb_catalog.specs.declared.outcome.Outcome.{Outcome}
use Rattle.sdb_catalog.specs.declared.outcome.Outcome.TheVariants as outcome
use Rattle.sdb_catalog.specs.declared.refused.CatalogRefused.{CatalogRefused}
use Rattle.sdb_catalog.specs.declared.refused.CatalogRefused.TheVariants as refused
use Rattle.sdb_catalog.specs.Calls.{first_contents, metadata_span}
use Rattle.sdb_catalog.specs.Definition.{definition_text}
use Rattle.sdb_catalog.specs.Rows.{definition_column, row_of, text_at}
use Rattle.sdb_catalog.specs.Opened.{IsFirstBad, Opens, store_in, tables_of}
use Rattle.sdb_catalog.specs.Written.{Line, entry_for, is_full, line_text, written_tables}

---- opened

-- The rows in these contents open as entries of the stores with these names, the tables of the entries make the catalog, and each
-- namespace is placed on the store that keeps it.
pub record IsCatalogIn (names : List (List ℕ)) (contents : Contents) (catalog : List Table) (places : List Place) : Type 0 where
  pub entries : List Entry
  pub opens : Opens names (rows_in metadata_span contents) entries
  pub tables : catalog ≡ tables_of entries
  pub placed : (ns : List ℕ) → route_of ns places ≡ store_in entries ns

-- A refused row is the first bad one of those in these contents.
abbrev pub IsBadIn : List (List ℕ) → Contents → CatalogRefused → Type 0
IsBadIn names contents refused.StoreFault = Unit {0}
IsBadIn names contents (refused.BadRow key) = IsFirstBad names (rows_in metadata_span contents) key
IsBadIn names contents refused.NoMemory = Unit {0}

---- one table is written

-- A catalog in a store: the entries that the catalog has, and what the store holds.
pub record CatalogState : Type 0 where
  pub entries : List Entry
  pub contents : Contents

abbrev pub state_of : List Entry → Contents → CatalogState
state_of entries contents = record { entries = entries; contents = contents }

-- a test: the record has the definition of the entry's table
abbrev pub has_definition : Entry → Record → Bool
has_definition e found = option_map_or (λ text. bytes_eq text (definition_text e.table)) (text_at definition_column found) false

-- what comes of an entry for whose row there is room, by the record at the row's key
abbrev pub outcome_at : Entry → Option Record → Outcome
outcome_at e None = outcome.Created
outcome_at e (Some found) = if has_definition e found then outcome.Exists else outcome.Differs

-- what comes of an entry
abbrev pub outcome_in : CatalogState → Entry → Outcome
outcome_in s e = if is_full s.entries e then outcome.Full else outcome_at e (record_at s.contents (row_of e).key)

-- The state after that. Only a created entry changes it: the catalog has the entry, and the store has its row at the row's key.
abbrev pub after_outcome : CatalogState → Entry → Outcome → CatalogState
after_outcome s e outcome.Created = state_of (s.entries ++ e ∷ []) (insert s.contents (row_of e).key (row_of e).columns)
after_outcome s e outcome.Exists = s
after_outcome s e outcome.Differs = s
after_outcome s e outcome.Full = s

abbrev pub after_entry : CatalogState → Entry → CatalogState
after_entry s e = after_outcome s e (outcome_in s e)

---- tables are written one after the other, where namespaces have these places and the first store has this name

abbrev pub line_of : List Place → List ℕ → CatalogState → Table → Line
line_of places first s t = record { table = t; outcome = outcome_in s (entry_for s.entries places first t) }

abbrev pub after_table : List Place → List ℕ → CatalogState → Table → CatalogState
after_table places first s t = after_entry s (entry_for s.entries places first t)

-- the lines of the answer
abbrev pub lines_of : List Place → List ℕ → CatalogState → List Table → List Line
lines_of places first s [] = []
lines_of places first s (t ∷ ts) = line_of places first s t ∷ lines_of places first (after_table places first s t) ts

-- the state in the end
abbrev pub state_after : List Place → List ℕ → CatalogState → List Table → CatalogState
state_after places first s [] = s
state_after places first s (t ∷ ts) = state_after places first (after_table places first s t) ts

---- what that adds

abbrev pub is_created : Line → Bool
is_created l = created l.outcome
  where
    created : Outcome → Bool
    created outcome.Created = true
    created outcome.Exists = false
    created outcome.Differs = false
    created outcome.Full = false

-- the tables of the lines that say `created`
abbrev pub created_in : List Line → List Table
created_in lines = map (λ l. l.table) (filter is_created lines)

-- contents with the row of each entry put at its key
abbrev pub with_rows : Contents → List Entry → Contents
with_rows m [] = m
with_rows m (e ∷ es) = with_rows (insert m (row_of e).key (row_of e).columns) es

-- The catalog has an entry more for each of these tables, in their order, and the store the rows of these entries. No other key
-- changed.
pub record IsWith (created : List Table) (old new : CatalogState) : Type 0 where
  pub added : List Entry
  pub tables : map (λ e. e.table) added ≡ created
  pub entries : new.entries ≡ old.entries ++ added
  pub contents : new.contents ≡ with_rows old.contents added

-- each record is there still
abbrev pub IncludesRecords : Contents → Contents → Type 0
IncludesRecords old new = (key : Key) (found : Record) → record_at old key ≡ Some found → record_at new key ≡ Some found

---- a catalog is written

-- the name of the first store
abbrev pub first_name : List (List ℕ) → List ℕ
first_name [] = []
first_name (name ∷ names) = name

-- A catalog was written to the first store, with this answer, and these are the contents before and after: the rows before open as
-- entries, and then each table was written. No other key changed.
pub record IsStoredIn (names : List (List ℕ)) (places : List Place) (catalog : List Table) (text : List ℕ) (old new : Contents) : Type 0 where
  pub entries : List Entry
  pub opens : Opens names (rows_in metadata_span old) entries
  pub answer : text ≡ flat_map line_text (lines_of places (first_name names) (state_of entries old) (written_tables catalog))
  pub contents : new ≡ (state_after places (first_name names) (state_of entries old) (written_tables catalog)).contents

-- The first tables of a catalog were written, as many as `count`, and no other key changed.
pub record IsPartlyStored (names : List (List ℕ)) (places : List Place) (catalog : List Table) (old new : Contents) : Type 0 where
  pub entries : List Entry
  pub opens : Opens names (rows_in metadata_span old) entries
  pub count : ℕ
  pub contents : new ≡ (state_after places (first_name names) (state_of entries old) (take count (written_tables catalog))).contents

-- What is in the first store where a catalog was refused: what was there, or the rows of its first tables too. A bad row is refused
-- before a row is put.
abbrev pub IsLeftBy : CatalogRefused → List (List ℕ) → List Place → List Table → Contents → Contents → Type 0
IsLeftBy refused.StoreFault names places catalog old new = (new ≡ old) ⊎ IsPartlyStored names places catalog old new
IsLeftBy (refused.BadRow key) names places catalog old new = (new ≡ old) × IsFirstBad names (rows_in metadata_span old) key
IsLeftBy refused.NoMemory names places catalog old new = (new ≡ old) ⊎ IsPartlyStored names places catalog old new

---- the same of the stores of a registry, where the contents of the first are known

-- the catalog is that of its rows
abbrev pub IsKnownCatalog : Attached → Attached → List Table → Type 0
IsKnownCatalog old new catalog = old.known 0 → IsCatalogIn (names_of old.views) (first_contents old.views) catalog new.places

-- a row that was refused is the first bad one
abbrev pub IsKnownBad : Attached → CatalogRefused → Type 0
IsKnownBad old e = old.known 0 → IsBadIn (names_of old.views) (first_contents old.views) e

-- the answer and what the first store then holds are those of the catalog
abbrev pub IsKnownStored : Attached → Attached → List Place → List Table → List ℕ → Type 0
IsKnownStored old new places catalog text = old.known 0 → IsStoredIn (names_of old.views) places catalog text (first_contents old.views) (first_contents new.views)

-- the first store then holds what such a refusal leaves
abbrev pub IsKnownLeft : Attached → Attached → List Place → List Table → CatalogRefused → Type 0
IsKnownLeft old new places catalog e = old.known 0 → IsLeftBy e (names_of old.views) places catalog (first_contents old.views) (first_contents new.views)

-- the first store holds what it held, or what it holds once an entry is written beside these
abbrev pub MayWrite : List Entry → Entry → Attached → Attached → Type 0
MayWrite known e old new = old.known 0 → (first_contents new.views ≡ first_contents old.views) ⊎ (first_contents new.views ≡ (after_entry (state_of known (first_contents old.views)) e).contents)

-- the first store holds what it holds once the first of these tables, as many as some number, are written beside these entries
abbrev pub MayWriteFirst : List Place → List ℕ → List Entry → List Table → Attached → Attached → Type 0
MayWriteFirst places first known ts old new = old.known 0 → (count : ℕ) × (first_contents new.views ≡ (state_after places first (state_of known (first_contents old.views)) (take count ts)).contents)
