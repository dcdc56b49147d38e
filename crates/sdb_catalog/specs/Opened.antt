-- What rows of the catalog open as.
use Rattle.std.specs.Prelude.{◌≡◌, ◌<◌, ◌^◌, ℕ, Bool, true, not, ◌&&◌, ◌||◌, nat_lt, List, [], ◌∷◌, ◌++◌, map, filter, find, count_by, Option, is_some, codes}
use Rattle.std.specs.List.{list_all}
use Rattle.std.specs.Option.{option_map}
use Rattle.std.specs.Str.{bytes_eq}
use Rattle.sdb_catalog.specs.Types.{Key, Record, Table}
use Rattle.sdb_catalog.specs.declared.entry.Entry.{Entry}
use Rattle.sdb_catalog.specs.declared.refused.CatalogRefused.{CatalogRefused}
use Rattle.sdb_catalog.specs.declared.refused.CatalogRefused.TheVariants as refused
use Rattle.sdb_catalog.specs.Rows.{MayHaveRow, row_of}

abbrev pub is_coordinators : Entry → Bool
is_coordinators e = bytes_eq e.table.name.ns (codes "coordinator")

-- the entries of the tables that statements may name: all but the coordinator's
abbrev pub open_entries : List Entry → List Entry
open_entries es = filter (λ e. not (is_coordinators e)) es

-- how many they are
abbrev pub open_count : List Entry → ℕ
open_count es = count_by (λ e. not (is_coordinators e)) es

-- the tables of the catalog
abbrev pub tables_of : List Entry → List Table
tables_of es = map (λ e. e.table) (open_entries es)

-- the store that keeps a namespace: that of its first table
abbrev pub store_in : List Entry → List ℕ → Option (List ℕ)
store_in es ns = option_map (λ e. e.store) (find (λ e. bytes_eq e.table.name.ns ns) es)

-- two tables of one namespace are in one store
abbrev pub agrees : Entry → Entry → Bool
agrees e a = not (bytes_eq a.table.name.ns e.table.name.ns) || bytes_eq a.store e.store

-- the store is one of these
abbrev pub is_attached : List (List ℕ) → List ℕ → Bool
is_attached names store = is_some (find (λ n. bytes_eq n store) names)

-- What a row of the catalog of these stores may say.
pub record IsEntry (names : List (List ℕ)) (e : Entry) : Type 0 where
  pub table : MayHaveRow e.table
  pub attached : is_attached names e.store ≡ true
  pub revision : e.revision.0 < 2 ^ 128

-- An entry agrees with those before it, and 64 tables are not passed.
abbrev pub fits : List Entry → Entry → Bool
fits passed e = list_all (agrees e) passed && (is_coordinators e || nat_lt (open_count passed) 64)

-- An entry may follow others in the catalog of these stores.
abbrev pub Follows : List (List ℕ) → List Entry → Entry → Type 0
Follows names passed e = IsEntry names e × (fits passed e ≡ true)

-- each may follow those before it
abbrev pub Follow : List (List ℕ) → List Entry → List Entry → Type 0
Follow names passed [] = Unit {0}
Follow names passed (e ∷ es) = Follows names passed e × Follow names (passed ++ e ∷ []) es

-- Rows open as these entries.
pub record Opens (names : List (List ℕ)) (rs : List Record) (es : List Entry) : Type 0 where
  pub rows : rs ≡ map row_of es
  pub follow : Follow names [] es

-- The row of this key is the first that no catalog has there: those before it open as entries that no entry of it may follow.
pub record IsFirstBad (names : List (List ℕ)) (rs : List Record) (place : Key) : Type 0 where
  pub passed : List Entry
  pub bad : Record
  pub later : List Record
  pub rows : rs ≡ map row_of passed ++ bad ∷ later
  pub follow : Follow names [] passed
  pub stops : (e : Entry) → row_of e ≡ bad → Follows names passed e → ⊥
  pub key : bad.key ≡ place

-- why rows open as no entries
abbrev pub IsBadAmong : List (List ℕ) → List Record → CatalogRefused → Type 0
IsBadAmong names rows refused.StoreFault = ⊥
IsBadAmong names rows (refused.BadRow key) = IsFirstBad names rows key
IsBadAmong names rows refused.NoMemory = Unit {0}

-- each is kept in a store that has a place among these names
abbrev pub are_attached : List (List ℕ) → List Entry → Bool
are_attached names es = list_all (λ e. is_attached names e.store) es
