-- How a transaction keeps what it has read and written.
use Rattle.std.specs.Prelude.{◌≡◌, ℕ, Bool, true, false, List, [], ◌∷◌, map, Option, Some, slice_get}
use Rattle.std.specs.List.{position_or_len}
use Rattle.std.specs.Map.{keys_of}
use Rattle.std.specs.Option.{option_map_or}
use Rattle.sdb_snapshot.specs.Types.{Key, Scan, Span, Write}
use Rattle.sdb_record.specs.Among.{is_written}
use Rattle.sdb_snapshot.specs.Reads.{ReadRecord, AreBases, is_key_read, record_read_at, base_at, has_changed}
use Rattle.sdb_snapshot.specs.Written.{AreWrites, HaveBases, HaveKeysOnce}
use Rattle.sdb_snapshot.specs.Seen.{is_scanned, same_span}

-- the keys of a map are those of the writes, each at its place
abbrev pub AreIndexed : List (Key × Unit {0}) → List Write → Type 0
AreIndexed places ws = keys_of places ≡ map (λ w. w.key) ws

-- the place of a span's first scan
abbrev pub first_scan : List Scan → Span → ℕ
first_scan scans span = position_or_len (λ s. same_span s.span span) scans

-- each span that was scanned has the place of its first scan
abbrev pub HaveFirstIndexes : List Scan → (Span → Option ℕ) → Type 0
HaveFirstIndexes scans place = (q : Span) → is_scanned scans q ≡ true → place q ≡ Some (first_scan scans q)

-- the scan at a place is of a span
abbrev pub is_scan_at : List Scan → ℕ → Span → Bool
is_scan_at scans i span = option_map_or (λ s. same_span s.span span) (slice_get scans i) false

-- each key that was written was read
abbrev pub WereRead : List ReadRecord → List Write → Type 0
WereRead read_set ws = (q : Key) → is_written ws q ≡ true → is_key_read read_set q ≡ true

-- what holds of all that a transaction has read and written
pub record IsSetInvariant (read_set : List ReadRecord) (ws : List Write) : Type 0 where
  pub read : WereRead read_set ws
  pub bases : AreBases read_set
  pub valid : AreWrites ws
  pub based : HaveBases read_set ws
  pub once : HaveKeysOnce ws

-- a list begins with another
abbrev pub StartsWith : {A : Type 0} → List A → List A → Type 0
StartsWith [] ys = Unit {0}
StartsWith (x ∷ xs) [] = ⊥
StartsWith (x ∷ xs) (y ∷ ys) = (x ≡ y) × StartsWith xs ys

-- a key was read with another version than other reads have
abbrev pub differs_from : List ReadRecord → List ReadRecord → Key → Bool
differs_from read_set now key = has_changed (record_read_at read_set key) (base_at now key)
