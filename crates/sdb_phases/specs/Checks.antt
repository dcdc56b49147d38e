-- The extra reads of a COMMIT, and what each is to find.
use Rattle.std.specs.Prelude.{Bool, not, if◌then◌else◌, List, [], ◌∷◌, ◌++◌, map, filter, Option, Some, None, is_none}
use Rattle.std.specs.Option.{option_map}
use Rattle.std.specs.Ordering.{is_lt}
use Rattle.std.specs.FinMap.{FinMap, get, insert, empty, entries}
use Rattle.sdb_phases.specs.Types.{Key, Read, Record, Reply, Request, Scan, Span, TxId, Write}
use Rattle.sdb_types.specs.declared.record.Request.TheVariants as ask
use Rattle.sdb_types.specs.declared.record.Reply.TheVariants as reply
use Rattle.sdb_types.specs.Order.{key_cmp, same_key}
use Rattle.sdb_types.specs.Contents.{in_span, record_among}
use Rattle.sdb_record.specs.Moved.{version_of, same_version, is_unchanged}
use Rattle.sdb_record.specs.Among.{is_written}
use Rattle.sdb_phases.specs.declared.check.Expected.{Expected}
use Rattle.sdb_phases.specs.declared.check.Expected.TheVariants as wish
use Rattle.sdb_phases.specs.declared.check.Wanted.{Wanted}
use Rattle.sdb_phases.specs.declared.check.Target.{Target}
use Rattle.sdb_phases.specs.declared.check.Target.TheVariants as target
use Rattle.sdb_phases.specs.declared.check.Check.{Check}
use Rattle.sdb_phases.specs.Work.{Work}

-- the version of the base of the write of a key, or none where the key isn't written
abbrev pub base_of : List Write → Key → Option (Option TxId)
base_of [] key = None
base_of (w ∷ ws) key = if same_key key w.key then Some (version_of w.base) else base_of ws key

---- what a rescan is to find

-- A key that isn't written is to have the version that the scan found. A written key is left out of the rescan, on
-- condition that its base has the version that the scan found.
abbrev pub is_granted : Expected → Option Record → Bool
is_granted (wish.Unchanged version) found = is_unchanged found version
is_granted (wish.Based same) found = same

-- a base has the version that is wished
abbrev pub wished_version : Option Expected → Option TxId → Bool
wished_version None base = is_none base
wished_version (Some (wish.Unchanged version)) base = same_version base version
wished_version (Some (wish.Based same)) base = same

abbrev pub Wishes : Type 0
Wishes = FinMap key_cmp Expected

abbrev pub with_reads : List Read → Wishes → Wishes
with_reads [] m = m
with_reads (r ∷ rs) m = with_reads rs (insert m r.key (wish.Unchanged r.version))

abbrev pub with_write : Span → Write → Wishes → Wishes
with_write span w m =
    if in_span span w.key then insert m w.key (wish.Based (wished_version (get m w.key) (version_of w.base))) else m

abbrev pub with_writes : Span → List Write → Wishes → Wishes
with_writes span [] m = m
with_writes span (w ∷ ws) m = with_writes span ws (with_write span w m)

-- what a rescan is to find, by key: at the keys that the scan found, and at the written keys of its span
abbrev pub wishes : List Write → Scan → Wishes
wishes own scan = with_writes scan.span own (with_reads scan.found empty)

abbrev pub wanted_of : Key × Expected → Wanted
wanted_of e = record { key = e.0; wish = e.1 }

abbrev pub wanted : List Write → Scan → List Wanted
wanted own scan = map wanted_of (entries (wishes own scan))

abbrev pub expected_at : List Wanted → Key → Option Expected
expected_at [] key = None
expected_at (w ∷ ws) key = if same_key key w.key then Some w.wish else expected_at ws key

-- a key at which nothing is wanted is to have no record
abbrev pub is_fulfilled : Option Expected → Option Record → Bool
is_fulfilled None found = is_none found
is_fulfilled (Some w) found = is_granted w found

-- at that key the rows are not what is wanted
abbrev pub differs : List Wanted → List Record → Key → Bool
differs ws rows key = not (is_fulfilled (expected_at ws key) (record_among rows key))

abbrev pub lesser : Key → Option Key → Key
lesser key None = key
lesser key (Some other) = if is_lt (key_cmp other key) then other else key

-- the least of keys in key order
abbrev pub least : List Key → Option Key
least [] = None
least (key ∷ keys) = Some (lesser key (least keys))

abbrev pub keys_among : List Wanted → List Record → List Key
keys_among ws rows = map (λ w. w.key) ws ++ map (λ r. r.key) rows

-- The first key in key order at which the rows are not what is wanted, with what is there.
abbrev pub first_difference : List Wanted → List Record → Option (Key × Option Record)
first_difference ws rows =
    option_map (λ key. (key, record_among rows key)) (least (filter (differs ws rows) (keys_among ws rows)))

---- checks

-- a get is to find the version that was read, and a scan what is wanted
abbrev pub check_of_read : Read → Check
check_of_read r = record { request = ask.Get r.key; target = target.Version r.version }

abbrev pub check_of_scan : List Write → Scan → Check
check_of_scan own scan = record { request = ask.Scan scan.span; target = target.Rows (wanted own scan) }

-- The checks of a COMMIT: a get of each key that was read by a get and isn't written, in order of first reading, and then
-- each scan again.
abbrev pub checks_of : List Write → List Read → List Scan → List Check
checks_of own reads scans =
    map check_of_read (filter (λ r. not (is_written own r.key)) reads) ++ map (check_of_scan own) scans

abbrev pub checks : Work → List Check
checks p = checks_of p.writes p.reads p.scans

abbrev pub changed : Bool → Key → Option Record → Option (Key × Option Record)
changed same key found = if same then None else Some (key, found)

-- the first key at which a check doesn't find what it is to find, with what is there
abbrev pub difference_at : Request → Target → Reply → Option (Key × Option Record)
difference_at (ask.Get key) (target.Version version) (reply.Found found) = changed (is_unchanged found version) key found
difference_at (ask.Scan span) (target.Rows ws) (reply.Rows rows) = first_difference ws rows
difference_at _ _ _ = None

abbrev pub difference_in : Check → Reply → Option (Key × Option Record)
difference_in c r = difference_at c.request c.target r
