-- A column added to a table of the catalog in a store.
use Rattle.std.specs.Prelude.{◌≡◌, ◌≢◌, ◌⊎◌, ◌+◌, ◌^◌, ℕ, Bool, not, ◌&&◌, nat_lt, List, [], ◌∷◌, ◌++◌, find, Option, Some, None, if◌then◌else◌, codes, decimal}
use Rattle.std.specs.FinMap.{insert}
use Rattle.sdb_catalog.specs.Types.{Column, Place, Record, Request, Table, TableName, TxId}
use Rattle.sdb_types.specs.declared.record.Condition.TheVariants.{Version}
use Rattle.sdb_types.specs.declared.record.Reply.TheVariants.{Applied, NotMet}
use Rattle.sdb_types.specs.declared.record.Request.TheVariants.{PutIf}
use Rattle.sdb_types.specs.declared.record.State.TheVariants.{Committed}
use Rattle.sdb_types.specs.Contents.{Contents, after, rows_in}
use Rattle.sdb_types.specs.Order.{table_text}
use Rattle.sdb_schema.specs.Added.{column_refused, column_refused_by, grown, with_column}
use Rattle.sdb_schema.specs.Catalog.{is_called, table_named}
use Rattle.sdb_stores.specs.Views.{Attached, StoreView, HaveRisen, names_of}
use Rattle.sdb_catalog.specs.declared.alteration.Alteration.{Alteration}
use Rattle.sdb_catalog.specs.declared.alteration.Alteration.TheVariants as alteration
use Rattle.sdb_catalog.specs.declared.entry.Entry.{Entry}
use Rattle.sdb_catalog.specs.declared.refused.CatalogRefused.{CatalogRefused}
use Rattle.sdb_catalog.specs.declared.refused.CatalogRefused.TheVariants as refused
use Rattle.sdb_catalog.specs.declared.refused.AlterRefused.{AlterRefused}
use Rattle.sdb_catalog.specs.declared.refused.AlterRefused.TheVariants as unaltered
use Rattle.sdb_catalog.specs.Known.{IsCatalogIn}
use Rattle.sdb_catalog.specs.Calls.{Called, IsRead, IsReadBad, first_contents, metadata_span, with_states}
use Rattle.sdb_catalog.specs.Opened.{IsFirstBad, Opens, is_coordinators, tables_of}
use Rattle.sdb_catalog.specs.Rows.{row_of}

---- the row of the table

-- the revision after another: 1 after the greatest
abbrev pub next_revision : TxId → TxId
next_revision id = if nat_lt (id.0 + 1) (2 ^ 128) then record { 0 = id.0 + 1 } else record { 0 = 1 }

-- The entry is that of the table of this name in the catalog, which lacks the coordinator's.
abbrev pub is_entry_of : TableName → Entry → Bool
is_entry_of name e = not (is_coordinators e) && is_called name e.table

-- the entry of a table
abbrev pub entry_named : List Entry → TableName → Option Entry
entry_named es name = find (is_entry_of name) es

-- an entry whose table has a column more, in the same store and at the next revision
abbrev pub altered : Column → Entry → Entry
altered c e = record { table = grown e.table c; store = e.store; revision = next_revision e.revision }

-- the entries, that of a table altered
abbrev pub altered_entries : List Entry → TableName → Column → List Entry
altered_entries [] name c = []
altered_entries (e ∷ es) name c = if is_entry_of name e then altered c e ∷ es else e ∷ altered_entries es name c

-- the put of a row over that of an entry, on condition of the entry's revision
abbrev pub put_over : Entry → Entry → Request
put_over renewed e = PutIf (row_of renewed) (Version e.revision Committed)

-- the put of the altered row
abbrev pub alteration_of : Column → Entry → Request
alteration_of c e = put_over (altered c e) e

---- the answer

abbrev pub word_of_alteration : Alteration → List ℕ
word_of_alteration alteration.Altered = codes "altered "
word_of_alteration (alteration.Refused number) = codes "refused "
word_of_alteration alteration.Differs = codes "differs "

-- the table, or the number of the cause
abbrev pub about_of : TableName → Alteration → List ℕ
about_of name alteration.Altered = table_text name
about_of name (alteration.Refused number) = decimal number
about_of name alteration.Differs = table_text name

-- the line of the answer
abbrev pub alteration_text : TableName → Alteration → List ℕ
alteration_text name o = word_of_alteration o ++ (about_of name o ++ 10 ∷ [])

-- A row was put so over another.
abbrev pub WasPut : Request → Alteration → Attached → List StoreView → Type 0
WasPut q alteration.Altered old new = Called q Applied old new
WasPut q (alteration.Refused number) old new = ⊥
WasPut q alteration.Differs old new = (found : Option Record) × Called q (NotMet found) old new

-- What came of the table of an entry: its altered row was put; or the table refuses the column, and there was no call; or the row that is
-- there is not that of the entry any more, and stays.
abbrev pub CameOf : Column → Entry → Alteration → Attached → List StoreView → Type 0
CameOf c e alteration.Altered old new = (column_refused_by e.table c ≡ None) × WasPut (alteration_of c e) alteration.Altered old new
CameOf c e (alteration.Refused number) old new = (column_refused_by e.table c ≡ Some number) × (new ≡ old.views)
CameOf c e alteration.Differs old new = (column_refused_by e.table c ≡ None) × WasPut (alteration_of c e) alteration.Differs old new

-- A column was to be added to a table, with this answer: the rows of the catalog were read, and this came of the table.
pub record IsAltered (name : TableName) (c : Column) (text : List ℕ) (old : Attached) (new : List StoreView) : Type 0 where
  pub entries : List Entry
  pub mid : List StoreView
  pub read : IsRead old mid entries
  pub entry : Entry
  pub found : entry_named entries name ≡ Some entry
  -- the catalog refuses what the table of the entry refuses
  pub refused : column_refused (tables_of entries) name c ≡ column_refused_by entry.table c
  pub outcome : Alteration
  pub came : CameOf c entry outcome (with_states old mid) new
  pub answer : text ≡ alteration_text name outcome

---- refused

-- the cause, where the rows of the catalog were not read or not written
abbrev pub cause_of : CatalogRefused → AlterRefused
cause_of refused.StoreFault = unaltered.StoreFault
cause_of (refused.BadRow key) = unaltered.BadRow key
cause_of refused.NoMemory = unaltered.NoMemory

-- The rows that one scan of the first store showed make a catalog without that table.
pub record IsReadWithout (name : TableName) (old : Attached) (new : List StoreView) : Type 0 where
  pub entries : List Entry
  pub read : IsRead old new entries
  pub none : table_named (tables_of entries) name ≡ None

-- Why there is no answer: a fault raised the count of the stores, a row is bad, or the catalog lacks the table.
abbrev pub IsUnaltered : TableName → Attached → List StoreView → AlterRefused → Type 0
IsUnaltered name old new unaltered.StoreFault = HaveRisen old.views new
IsUnaltered name old new (unaltered.BadRow key) = IsReadBad old new key
IsUnaltered name old new unaltered.NoTable = IsReadWithout name old new
IsUnaltered name old new unaltered.NoMemory = Unit {0}

---- a first store of known contents

-- The rows of the catalog open as entries, of which the table's takes the column; its altered row was put, and nothing else changed. The
-- rows then open as the entries with that one altered, whose tables are those of before, with a column more.
pub record IsGrownIn (names : List (List ℕ)) (name : TableName) (c : Column) (old new : Contents) : Type 0 where
  pub entries : List Entry
  pub opens : Opens names (rows_in metadata_span old) entries
  pub entry : Entry
  pub found : entry_named entries name ≡ Some entry
  pub allowed : column_refused (tables_of entries) name c ≡ None
  pub contents : new ≡ insert old (row_of (altered c entry)).key (row_of (altered c entry)).columns
  pub now : Opens names (rows_in metadata_span new) (altered_entries entries name c)
  pub tables : tables_of (altered_entries entries name c) ≡ with_column (tables_of entries) name c

-- A table was given a column so, and the rows then open as this catalog, with its namespaces placed.
pub record GrownCatalog : Type 0 where
  pub names : List (List ℕ)
  pub name : TableName
  pub column : Column
  pub old : Contents
  pub new : Contents
  pub grown : IsGrownIn names name column old new
  pub catalog : List Table
  pub places : List Place
  pub opens : IsCatalogIn names new catalog places

-- The catalog of the rows has the table, which refuses the column by this number, and nothing changed.
pub record IsColumnRefusedIn (names : List (List ℕ)) (name : TableName) (c : Column) (number : ℕ) (old new : Contents) : Type 0 where
  pub entries : List Entry
  pub opens : Opens names (rows_in metadata_span old) entries
  pub refused : column_refused (tables_of entries) name c ≡ Some number
  pub there : table_named (tables_of entries) name ≢ None
  pub same : new ≡ old

-- A column was to be added to a table, with this answer, and these are the contents before and after. No table differs from what was read.
pub data IsAlteredIn (names : List (List ℕ)) (name : TableName) (c : Column) (text : List ℕ) (old new : Contents) : Type 0 where
  Altered : IsGrownIn names name c old new → text ≡ alteration_text name alteration.Altered → IsAlteredIn names name c text old new
  Refused : (number : ℕ) → IsColumnRefusedIn names name c number old new → text ≡ alteration_text name (alteration.Refused number) → IsAlteredIn names name c text old new

-- The rows make a catalog without that table.
pub record LacksTable (names : List (List ℕ)) (name : TableName) (contents : Contents) : Type 0 where
  pub entries : List Entry
  pub opens : Opens names (rows_in metadata_span contents) entries
  pub none : table_named (tables_of entries) name ≡ None

-- The first store holds what it held, or the table has the column.
abbrev pub MayBeGrown : List (List ℕ) → TableName → Column → Contents → Contents → Type 0
MayBeGrown names name c old new = (new ≡ old) ⊎ IsGrownIn names name c old new

-- What is in the first store where there is no answer: what was there; but a call that failed may have put the row, as had one whose line found
-- no memory.
abbrev pub IsUnalteredIn : List (List ℕ) → TableName → Column → Contents → Contents → AlterRefused → Type 0
IsUnalteredIn names name c old new unaltered.StoreFault = MayBeGrown names name c old new
IsUnalteredIn names name c old new (unaltered.BadRow key) = (new ≡ old) × IsFirstBad names (rows_in metadata_span old) key
IsUnalteredIn names name c old new unaltered.NoTable = (new ≡ old) × LacksTable names name old
IsUnalteredIn names name c old new unaltered.NoMemory = MayBeGrown names name c old new

-- the first store holds what it held, or what the put of the altered row makes of that, where the table takes the column
abbrev pub MayAlter : Column → Entry → Attached → Attached → Type 0
MayAlter c e old new =
    old.known 0 → (first_contents new.views ≡ first_contents old.views)
    ⊎ ((column_refused_by e.table c ≡ None) × (first_contents new.views ≡ after (alteration_of c e) (first_contents old.views)))

-- the answer, and what the first store then holds, are those of its contents, where these are known
abbrev pub IsKnownAltered : TableName → Column → Attached → Attached → List ℕ → Type 0
IsKnownAltered name c old new text = old.known 0 → IsAlteredIn (names_of old.views) name c text (first_contents old.views) (first_contents new.views)

-- so are a cause, and what the first store then holds
abbrev pub IsKnownUnaltered : TableName → Column → Attached → Attached → AlterRefused → Type 0
IsKnownUnaltered name c old new e = old.known 0 → IsUnalteredIn (names_of old.views) name c (first_contents old.views) (first_contents new.views) e
