-- What was found at the keys that were read.
use Rattle.std.specs.Prelude.{◌≡◌, Bool, true, false, not, if◌then◌else◌, List, [], ◌∷◌, ◌++◌, map, Option, Some, None, is_some, IfSome}
use Rattle.std.specs.List.{list_any, AllByRecursion}
use Rattle.std.specs.Option.{option_and_then}
use Rattle.std.specs.Ordering.{is_eq, is_le}
use Rattle.sdb_snapshot.specs.Types.{Key, Read, Record, Span}
use Rattle.sdb_types.specs.Order.{key_cmp}
use Rattle.sdb_types.specs.Contents.{in_span, are_rows_of, record_among}
use Rattle.sdb_snapshot.specs.Entries.{value_at}
use Rattle.sdb_record.specs.Moved.{version_of, same_version}
use Rattle.sdb_record.specs.Rolls.{IsBaseOf}

-- A key that was read, with the committed record found there, or none.
abbrev pub ReadRecord : Type 0
ReadRecord = Key × Option Record

-- What was found at a key, where it was read.
abbrev pub record_read_at : List ReadRecord → Key → Option (Option Record)
record_read_at read_set key = value_at read_set key

abbrev pub is_key_read : List ReadRecord → Key → Bool
is_key_read read_set key = is_some (record_read_at read_set key)

-- the record that was found at a key: none where it has none or was not read
abbrev pub base_at : List ReadRecord → Key → Option Record
base_at read_set key = option_and_then (λ found. found) (record_read_at read_set key)

-- with a key in the read set; what was read first stays
abbrev pub with_read_record : List ReadRecord → Key → Option Record → List ReadRecord
with_read_record read_set key found = if is_key_read read_set key then read_set else read_set ++ (key, found) ∷ []

-- with each record of a scan in the read set
abbrev pub with_images : List ReadRecord → List Record → List ReadRecord
with_images read_set [] = read_set
with_images read_set (r ∷ rs) = with_images (with_read_record read_set r.key (Some r)) rs

-- what was found at each key is none or a committed record of that key
abbrev pub AreBases : List ReadRecord → Type 0
AreBases read_set = AllByRecursion (λ e. IfSome e.1 (IsBaseOf e.0)) read_set

---- scans

abbrev pub has_key : List Record → Key → Bool
has_key rs key = list_any (λ r. is_eq (key_cmp key r.key)) rs

-- the keys of a scan's records, with their versions
abbrev pub read_of : Record → Read
read_of r = record { key = r.key; version = version_of (Some r) }

abbrev pub reads_of : List Record → List Read
reads_of images = map read_of images

abbrev pub has_changed : Option (Option Record) → Option Record → Bool
has_changed None found = false
has_changed (Some as_read) found = not (same_version (version_of as_read) (version_of found))

-- A key that was read has another version among the records of a scan, where a key that isn't among them is absent.
abbrev pub differs : List ReadRecord → List Record → Key → Bool
differs read_set images key = has_changed (record_read_at read_set key) (record_among images key)

-- The first key of a span, in the order of keys, that differs, with its record among those of the scan, or none.
pub record IsFirstDifference (read_set : List ReadRecord) (span : Span) (images : List Record) (key : Key) (found : Option Record) : Type 0 where
  pub inside : in_span span key ≡ true
  pub moved : differs read_set images key ≡ true
  pub agrees : found ≡ record_among images key
  pub first : (q : Key) → in_span span q ≡ true → differs read_set images q ≡ true → is_le (key_cmp key q) ≡ true

-- no key of the span differs
abbrev pub IsUnmoved : List ReadRecord → Span → List Record → Type 0
IsUnmoved read_set span images = (q : Key) → in_span span q ≡ true → differs read_set images q ≡ false

-- records of a span in the order of their keys, among them one of each key that was read
pub record AreKeysOf (read_set : List ReadRecord) (span : Span) (rs : List Record) : Type 0 where
  pub rows : are_rows_of span rs ≡ true
  pub as_read : (q : Key) → in_span span q ≡ true → is_key_read read_set q ≡ true → has_key rs q ≡ true
