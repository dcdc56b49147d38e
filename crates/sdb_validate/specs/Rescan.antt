-- What a rescan means: at each key it finds what the scan found.
use Rattle.std.specs.Prelude.{◌≡◌, Bool, true, false, ◌&&◌, if◌then◌else◌, List, [], ◌∷◌, Option, Some, None}
use Rattle.std.specs.Ordering.{is_lt}
use Rattle.std.specs.declared.cmp.Ordering.TheVariants.{Less}
use Rattle.sdb_validate.specs.Types.{Expected, Key, Read, Record, Scan, Span, TxId, Wanted, Write}
use Rattle.sdb_types.specs.Order.{key_cmp}
use Rattle.sdb_types.specs.Contents.{in_span, record_among}
use Rattle.sdb_record.specs.Moved.{same_version, is_unchanged}
use Rattle.sdb_record.specs.Among.{version_among}
use Rattle.sdb_phases.specs.declared.check.Expected.TheVariants as wish
use Rattle.sdb_phases.specs.Checks.{base_of, wished_version}

-- the version of the base of a written key of the span
abbrev pub base_in : Span → List Write → Key → Option (Option TxId)
base_in span own key = if in_span span key then base_of own key else None

-- what a key is to have, where it may be a written key of the span
abbrev pub expected_of_written : Bool → Option (Option TxId) → Option Expected → Option Expected
expected_of_written false base o = o
expected_of_written true None o = o
expected_of_written true (Some version) o = Some (wish.Based (wished_version o version))

abbrev pub is_unchanged_by : Option (Option TxId) → Option TxId → Option Record → Bool
is_unchanged_by (Some base) version found = same_version base version
is_unchanged_by None version found = is_unchanged found version

-- At that key the rows are what the scan found: a key that isn't written has the version that the scan found, and the base
-- of a written key of the span has that version, whatever is there.
abbrev pub is_unchanged_at : List Write → Scan → List Record → Key → Bool
is_unchanged_at own scan rows key =
    is_unchanged_by (base_in scan.span own key) (version_among scan.found key) (record_among rows key)

---- what a scan found is in key order

abbrev pub starts_behind : Key → List Read → Bool
starts_behind key [] = true
starts_behind key (r ∷ rs) = is_lt (key_cmp key r.key)

abbrev pub reads_rise : List Read → Bool
reads_rise [] = true
reads_rise (r ∷ rs) = starts_behind r.key rs && reads_rise rs

-- a key that was found is to have its version
abbrev pub wanted_of_read : Read → Wanted
wanted_of_read r = record { key = r.key; wish = wish.Unchanged r.version }

-- A rescan passes where every key is kept. Else its conflict is at the first key in key order that isn't, with what is
-- there.
abbrev pub IsFirstLost : List Write → Scan → List Record → Option (Key × Option Record) → Type 0
IsFirstLost own scan rows None = (key : Key) → is_unchanged_at own scan rows key ≡ true
IsFirstLost own scan rows (Some d) =
    (d.1 ≡ record_among rows d.0) × (is_unchanged_at own scan rows d.0 ≡ false) × ((key : Key) → key_cmp key d.0 ≡ Less → is_unchanged_at own scan rows key ≡ true)
