-- Lists of records in the order of their keys.
use Rattle.std.specs.Prelude.{◌≡◌, ℕ, ◌<◌, ◌≤◌, List, map, length, slice_index_or}
use Rattle.std.specs.declared.cmp.Ordering.TheVariants.{Less, Greater}
use Rattle.std.specs.FinMap.{from_entries}
use Rattle.sdb_hashed.specs.Types.{Key, Pair, Record}
use Rattle.sdb_types.specs.Order.{key_cmp}
use Rattle.sdb_types.specs.Contents.{Contents}

-- the entries of records
abbrev pub entries_of : List Record → List (Key × List Pair)
entries_of records = map (λ r. (r.key, r.columns)) records

-- what records hold
abbrev pub contents_of_bucket : List Record → Contents
contents_of_bucket records = from_entries (entries_of records)

-- The record at that place has the key.
pub record IsAt (records : List Record) (key : Key) (i : ℕ) : Type 0 where
  pub inside : i < length records
  pub own : (d : Record) → (slice_index_or records i d).key ≡ key

-- The key belongs at that place: those before it are less, and those from it on greater.
pub record IsGapFor (records : List Record) (key : Key) (i : ℕ) : Type 0 where
  pub inside : i ≤ length records
  pub before : (k : ℕ) (d : Record) → k < i → key_cmp (slice_index_or records k d).key key ≡ Less
  pub after : (k : ℕ) (d : Record) → i ≤ k → k < length records → key_cmp (slice_index_or records k d).key key ≡ Greater
