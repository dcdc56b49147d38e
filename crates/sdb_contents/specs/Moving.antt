-- Rows of a catalog of which some namespaces move from one store to another.
use Rattle.std.specs.Prelude.{◌≡◌, ℕ, Bool, true, not, ◌&&◌, ◌||◌, nat_lt, List, [], ◌∷◌, ◌++◌, map, filter, if◌then◌else◌}
use Rattle.std.specs.List.{list_all, list_any}
use Rattle.std.specs.Str.{bytes_eq}
use Rattle.sdb_contents.specs.Types.{Entry, Key, Record, Request, TableName}
use Rattle.sdb_types.specs.declared.record.Condition.TheVariants.{Version}
use Rattle.sdb_types.specs.declared.record.Request.TheVariants.{PutIf}
use Rattle.sdb_types.specs.declared.record.State.TheVariants.{Committed}
use Rattle.sdb_catalog.specs.Altered.{next_revision}
use Rattle.sdb_catalog.specs.Opened.{IsEntry, is_coordinators, open_count}
use Rattle.sdb_catalog.specs.Rows.{row_of}

-- the store that keeps what was in a store, once all of `from` is in `to`
abbrev pub settled : List ℕ → List ℕ → List ℕ → List ℕ
settled from to store = if bytes_eq store from then to else store

-- two tables of one namespace are in one store, where `from` and `to` are one
abbrev pub agrees_moving : List ℕ → List ℕ → Entry → Entry → Bool
agrees_moving from to e a =
    not (bytes_eq a.table.name.ns e.table.name.ns) || bytes_eq (settled from to a.store) (settled from to e.store)

-- An entry agrees with those before it, and 64 tables are not passed.
abbrev pub agrees_with_moving : List ℕ → List ℕ → List Entry → Entry → Bool
agrees_with_moving from to passed e = list_all (agrees_moving from to e) passed && (is_coordinators e || nat_lt (open_count passed) 64)

abbrev pub FollowsMoving : List (List ℕ) → List ℕ → List ℕ → List Entry → Entry → Type 0
FollowsMoving names from to passed e = IsEntry names e × (agrees_with_moving from to passed e ≡ true)

-- each may follow those before it
abbrev pub FollowMoving : List (List ℕ) → List ℕ → List ℕ → List Entry → List Entry → Type 0
FollowMoving names from to passed [] = Unit {0}
FollowMoving names from to passed (e ∷ es) = FollowsMoving names from to passed e × FollowMoving names from to (passed ++ e ∷ []) es

-- Rows open as these entries of a catalog in which a namespace may be in `from` and in `to`, and otherwise is in one store.
pub record OpensMoving (names : List (List ℕ)) (from to : List ℕ) (rs : List Record) (es : List Entry) : Type 0 where
  pub rows : rs ≡ map row_of es
  pub follow : FollowMoving names from to [] es

-- The row of this key is the first that no such catalog has there: those before it open as entries that no entry of it may follow.
pub record IsFirstBadMoving (names : List (List ℕ)) (from to : List ℕ) (rs : List Record) (place : Key) : Type 0 where
  pub passed : List Entry
  pub bad : Record
  pub later : List Record
  pub rows : rs ≡ map row_of passed ++ bad ∷ later
  pub follow : FollowMoving names from to [] passed
  pub stops : (e : Entry) → row_of e ≡ bad → FollowsMoving names from to passed e → ⊥
  pub key : bad.key ≡ place

-- an entry that says that a namespace is in this store
abbrev pub is_in_store : List ℕ → List ℕ → Entry → Bool
is_in_store from ns e = bytes_eq e.store from && bytes_eq e.table.name.ns ns

-- A namespace is moving where an entry of it names `from`.
abbrev pub is_moving : List ℕ → List Entry → List ℕ → Bool
is_moving from es ns = list_any (is_in_store from ns) es

-- the tables of moving namespaces, in the order of the rows
abbrev pub moving_tables : List ℕ → List Entry → List TableName
moving_tables from es = map (λ e. e.table.name) (filter (λ e. is_moving from es e.table.name.ns) es)

-- what the row of a table then says that names `from`
abbrev pub renewed : List ℕ → Entry → Entry
renewed to e = record { table = e.table; store = to; revision = next_revision e.revision }

-- the put of that row, on condition of the old revision
abbrev pub renewal : List ℕ → Entry → Request
renewal to e = PutIf (row_of (renewed to e)) (Version e.revision Committed)

-- the puts of the rows that name `from`
abbrev pub renewals : List ℕ → List ℕ → List Entry → List Request
renewals from to es = map (renewal to) (filter (λ e. bytes_eq e.store from) es)
