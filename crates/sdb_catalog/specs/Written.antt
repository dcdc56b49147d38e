-- What is written of a catalog, and the answer's lines.
use Rattle.std.specs.Prelude.{◌≡◌, ℕ, Bool, true, false, not, ◌&&◌, nat_lt, List, [], ◌∷◌, ◌++◌, map, flat_map, Some, unwrap_or, slice_get, codes}
use Rattle.std.specs.List.{list_any}
use Rattle.std.specs.Ordering.{is_eq}
use Rattle.sdb_catalog.specs.Types.{Place, Record, Request, Table, TableName}
use Rattle.sdb_types.specs.declared.record.Condition.TheVariants.{Absent}
use Rattle.sdb_types.specs.declared.record.Reply.TheVariants.{Applied, NotMet}
use Rattle.sdb_types.specs.declared.record.Request.TheVariants.{PutIf}
use Rattle.sdb_types.specs.Order.{table_cmp, table_text}
use Rattle.sdb_schema.specs.Catalog.{with_table}
use Rattle.sdb_stores.specs.Views.{Attached, StoreView, names_of, route_of}
use Rattle.sdb_catalog.specs.declared.entry.Entry.{Entry}
use Rattle.sdb_catalog.specs.declared.outcome.Outcome.{Outcome}
use Rattle.sdb_catalog.specs.declared.outcome.Outcome.TheVariants as outcome
use Rattle.sdb_catalog.specs.Definition.{definition_text}
use Rattle.sdb_catalog.specs.Rows.{coordinators, definition_column, row_of, text_at}
use Rattle.sdb_catalog.specs.Opened.{is_coordinators, open_count, store_in}
use Rattle.sdb_catalog.specs.Calls.{Called, IsRead, with_states}

---- the tables, and the row of each

-- the tables that are given a row: those of the catalog and the coordinator's, in the order of their names
abbrev pub written_tables : List Table → List Table
written_tables catalog = with_table coordinators catalog

-- the store of a namespace: the one that keeps it, else the one that it is placed on, else the first
abbrev pub store_for : List Entry → List Place → List ℕ → List ℕ → List ℕ
store_for known places first ns = unwrap_or (store_in known ns) (unwrap_or (route_of ns places) first)

-- what the new row of a table says
abbrev pub entry_for : List Entry → List Place → List ℕ → Table → Entry
entry_for known places first t = record { table = t; store = store_for known places first t.name.ns; revision = record { 0 = 1 } }

---- one table

abbrev pub has_entry : List Entry → TableName → Bool
has_entry known name = list_any (λ e. is_eq (table_cmp e.table.name name)) known

-- The catalog has 64 tables, and lacks this one. The coordinator's doesn't count.
abbrev pub is_full : List Entry → Entry → Bool
is_full known e = not (has_entry known e.table.name) && (not (is_coordinators e) && not (nat_lt (open_count known) 64))

-- the put of an entry's row, where there is none
abbrev pub put_of : Entry → Request
put_of e = PutIf (row_of e) Absent

-- the row found has the definition of the entry's table
abbrev pub HasDefinition : Entry → Record → Type 0
HasDefinition e found = text_at definition_column found ≡ Some (definition_text e.table)

-- The row of an entry was put, and this came of it: it was created, or one that was there has the same definition or another.
abbrev pub IsPut : Entry → Outcome → Attached → List StoreView → Type 0
IsPut e outcome.Created old new = Called (put_of e) Applied old new
IsPut e outcome.Exists old new = (found : Record) × Called (put_of e) (NotMet (Some found)) old new × HasDefinition e found
IsPut e outcome.Differs old new = (found : Record) × Called (put_of e) (NotMet (Some found)) old new × (HasDefinition e found → ⊥)
IsPut e outcome.Full old new = ⊥

-- What came of an entry. Where the catalog is full without it there is no call.
abbrev pub IsWritten : List Entry → Entry → Outcome → Attached → List StoreView → Type 0
IsWritten known e outcome.Created old new = (is_full known e ≡ false) × IsPut e outcome.Created old new
IsWritten known e outcome.Exists old new = (is_full known e ≡ false) × IsPut e outcome.Exists old new
IsWritten known e outcome.Differs old new = (is_full known e ≡ false) × IsPut e outcome.Differs old new
IsWritten known e outcome.Full old new = (is_full known e ≡ true) × (new ≡ old.views)

-- the entries that are known after it
abbrev pub grown : List Entry → Entry → Outcome → List Entry
grown known e outcome.Created = known ++ e ∷ []
grown known e outcome.Exists = known
grown known e outcome.Differs = known
grown known e outcome.Full = known

---- all tables

-- a line of the answer
pub record Line : Type 0 where
  pub table : Table
  pub outcome : Outcome

abbrev pub word_of_outcome : Outcome → List ℕ
word_of_outcome outcome.Created = codes "created "
word_of_outcome outcome.Exists = codes "exists "
word_of_outcome outcome.Differs = codes "differs "
word_of_outcome outcome.Full = codes "full "

abbrev pub line_text : Line → List ℕ
line_text l = word_of_outcome l.outcome ++ (table_text l.table.name ++ 10 ∷ [])

-- The tables of the lines were written one after the other, with what each line says.
abbrev pub AreWritten : List Place → List ℕ → List Entry → List Line → Attached → List StoreView → Type 0
AreWritten places first known [] old new = new ≡ old.views
AreWritten places first known (l ∷ ls) old new =
    (mid : List StoreView) × IsWritten known (entry_for known places first l.table) l.outcome old mid
    × AreWritten places first (grown known (entry_for known places first l.table) l.outcome) ls (with_states old mid) new

-- Tables were written one after the other, with a line for each.
pub record HasWritten (places : List Place) (first : List ℕ) (known : List Entry) (ts : List Table) (answer : List ℕ) (old : Attached) (new : List StoreView) : Type 0 where
  pub lines : List Line
  pub tables : map (λ l. l.table) lines ≡ ts
  pub written : AreWritten places first known lines old new
  pub text : answer ≡ flat_map line_text lines

-- A catalog was written, with this answer: its rows were read, and then the tables were written.
pub record IsStored (places : List Place) (catalog : List Table) (text : List ℕ) (old : Attached) (new : List StoreView) : Type 0 where
  pub entries : List Entry
  pub mid : List StoreView
  pub read : IsRead old mid entries
  pub first : List ℕ
  pub named : slice_get (names_of old.views) 0 ≡ Some first
  pub written : HasWritten places first entries (written_tables catalog) text (with_states old mid) new
