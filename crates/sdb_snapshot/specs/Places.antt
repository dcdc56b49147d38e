-- The place of each key, and keys by their order.
use Rattle.std.specs.Prelude.{◌≡◌, ℕ, Bool, true, false, List, [], map, filter, Option, Some, is_some, slice_get, position}
use Rattle.std.specs.Option.{option_map_or}
use Rattle.sdb_types.specs.declared.key.Key.{Key}
use Rattle.sdb_types.specs.declared.record.Record.{Record}
use Rattle.sdb_types.specs.declared.record.Span.{Span}
use Rattle.sdb_types.specs.Contents.{in_span, are_rows_of}
use Rattle.sdb_types.specs.Order.{same_key}
use Rattle.sdb_snapshot.specs.Entries.{value_at}
use Rattle.sdb_snapshot.specs.Reads.{has_key}

-- the key at an index is that one
abbrev pub is_key_at : List Key → ℕ → Key → Bool
is_key_at keys i key = option_map_or (same_key key) (slice_get keys i) false

-- each of the keys has the index of its first use
abbrev pub HaveFirstIndexes : List Key → (Key → Option ℕ) → Type 0
HaveFirstIndexes keys index = (q : Key) (i : ℕ) → position (same_key q) keys ≡ Some i → index q ≡ Some i

-- each of the keys has its index, so it has one
abbrev pub HaveIndexes : List Key → (Key → Option ℕ) → Type 0
HaveIndexes keys index = (q : Key) (i : ℕ) → is_key_at keys i q ≡ true → index q ≡ Some i

---- the keys of a span

-- a key alone, as a record
abbrev pub key_alone : Key × ℕ → Record
key_alone e = record { key = e.0; columns = [] }

abbrev pub keys_among : Span → List (Key × ℕ) → List Record
keys_among span es = map key_alone (filter (λ e. in_span span e.0) es)

-- records of a span in the order of their keys, among them one of each key that has a value
pub record AreKeysIn {V : Type 0} (es : List (Key × V)) (span : Span) (rs : List Record) : Type 0 where
  pub rows : are_rows_of span rs ≡ true
  pub as_read : (q : Key) → in_span span q ≡ true → is_some (value_at es q) ≡ true → has_key rs q ≡ true
