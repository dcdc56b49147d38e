-- What a database of the store's form holds.
use Rattle.std.specs.Prelude.{◌≡◌, ◌⊎◌, ◌≤◌, ℕ, Bool, false, length, None, IsTrue}
use Rattle.std.specs.List.{AllByRecursion}
use Rattle.std.specs.FinMap as map
use Rattle.sqlite.specs.State.{State}
use Rattle.sqlite.specs.Store.{Ghosts}
use Rattle.sqlite.specs.Held.{Held as Connected, state}
use Rattle.sqlite.specs.Schema.{Schema}
use Rattle.sqlite.specs.Tree.{IsTable}
use Rattle.sdb_sqlite.specs.Types.{Key, Reply, Request}
use Rattle.sdb_types.specs.Contents.{Contents}
use Rattle.sdb_store.specs.Store.{StoreState, Performs}
use Rattle.sdb_sqlite.specs.Table.{no_schema, table_schema, records_schema}
use Rattle.sdb_sqlite.specs.Rows.{IsRowOfStore, rows_at, contents_of_rows}

-- The database has this schema and nothing else, outside of a transaction, and no limit on the steps of a query. Each row is one
-- that the store writes, with a rowid of its own, and no key has two.
pub record HasForm (form : Schema) (s : State) : Type 0 where
  pub schema : s.now.schema ≡ form
  pub rows : AllByRecursion IsRowOfStore (s.now.trees 0)
  pub numbered : IsTable (s.now.trees 0)
  pub once : (key : Key) → length (rows_at key (s.now.trees 0)) ≤ 1
  pub settled : s.committed ≡ s.now
  pub autocommit : s.in_transaction ≡ false
  pub unlimited : s.step_limit ≡ None

-- The table with its index, as a transaction sees it or as it is outside of one: each row is one that the store writes.
pub record HoldsRows (s : State) : Type 0 where
  pub schema : s.now.schema ≡ records_schema
  pub rows : AllByRecursion IsRowOfStore (s.now.trees 0)
  pub numbered : IsTable (s.now.trees 0)
  pub once : (key : Key) → length (rows_at key (s.now.trees 0)) ≤ 1
  pub unlimited : s.step_limit ≡ None

-- the table with its index
abbrev pub HasTable : State → Type 0
HasTable = HasForm records_schema

-- the table with its index or without
abbrev pub IsFormed : State → Type 0
IsFormed s = HasForm table_schema s ⊎ HasTable s

abbrev pub contents_of_state : State → Contents
contents_of_state s = contents_of_rows (s.now.trees 0)

-- a new database
pub record IsBlank (s : State) : Type 0 where
  pub schema : s.now.schema ≡ no_schema
  pub settled : s.committed ≡ s.now
  pub autocommit : s.in_transaction ≡ false
  pub unlimited : s.step_limit ≡ None

-- A call leaves a database that is kept, and is answered as a map answers it.
pub record IsAnswered (q : Request) (reply : Reply) (old new : State) : Type 0 where
  pub kept : HasTable new
  pub performed : Performs q reply (contents_of_state old) (contents_of_state new)

-- The database is kept where contents are known, and has the form of the store.
abbrev pub IsKnownIn : {S : Type 0} → Ghosts S → Bool → Connected S → Type 0
IsKnownIn g is_known connection = IsTrue is_known × HasTable (state g connection)

-- It does, and holds this.
pub record IsKnownAs {S : Type 0} (g : Ghosts S) (is_known : Bool) (contents : Contents) (connection : Connected S) : Type 0 where
  pub answered : IsKnownIn g is_known connection
  pub holds : contents_of_state (state g connection) ≡ contents

-- Over a new database that is kept where contents are known, the store holds nothing.
abbrev pub IsNewDatabase : {S : Type 0} → Ghosts S → Bool → Connected S → Connected S → Type 0
IsNewDatabase g is_known old new = IsTrue is_known → IsBlank (state g old) → IsKnownAs g is_known map.empty new

-- Over one that has the table, with the index or without, it holds what is there.
abbrev pub IsStoreOn : {S : Type 0} → Ghosts S → Bool → Connected S → Connected S → Type 0
IsStoreOn g is_known old new = IsTrue is_known → IsFormed (state g old) → IsKnownAs g is_known (contents_of_state (state g old)) new

-- The call leaves a database that is kept where contents are known and has the form of the store, where it was one, and is then
-- answered as a map answers it.
abbrev pub PerformsIn : {S : Type 0} → Ghosts S → Bool → Request → Reply → Connected S → Connected S → Type 0
PerformsIn g is_known q reply old new = IsKnownIn g is_known old → IsAnswered q reply (state g old) (state g new)

-- The store over a database as any store: its contents are known where those of the database are.
abbrev pub store_state_of : {S : Type 0} → Ghosts S → Bool → Connected S → ℕ → ℕ → StoreState
store_state_of g is_known connection faults calls = record { known = IsKnownIn g is_known connection; contents = contents_of_state (state g connection); faults = faults; calls = calls }
