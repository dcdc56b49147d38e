-- What a transaction has read and written, and the rows that it sees.
use Rattle.std.specs.Prelude.{◌≡◌, Bool, true, List, [], ◌∷◌, ◌++◌, length, take, Option, Some, None}
use Rattle.std.specs.List.{list_any}
use Rattle.std.specs.FinMap.{get}
use Rattle.sdb_snapshot.specs.Types.{Access, Image, Key, Keyed, Pair, Read, Record, Scan, Span, Write}
use Rattle.sdb_record.specs.Moved.{version_of}
use Rattle.sdb_record.specs.Rolls.{row_of_change}
use Rattle.sdb_record.specs.Among.{write_among}
use Rattle.sdb_model.specs.Exec.{Tables}
use Rattle.sdb_types.specs.contracts.record.SpanPartialEq.TheImpl as span_eq
use Rattle.sdb_snapshot.specs.declared.snapshot.Mark.{Mark}
use Rattle.sdb_snapshot.specs.Reads.{ReadRecord, base_at, reads_of, with_images}
use Rattle.sdb_snapshot.specs.Written.{with_writes}
use Rattle.sdb_model.specs.Access.{in_access, rows_at}
use Rattle.sdb_snapshot.specs.Rows.{with_own, tables_of_reads, row_found}

-- The keys read, with what was found, in the order of first reading; the gets that made a call; the spans scanned, with
-- the versions found; and the writes, one for each key, in the order of first writing.
pub record Seen : Type 0 where
  pub read_set : List ReadRecord
  pub reads : List Read
  pub scans : List Scan
  pub writes : List Write

abbrev pub nothing : Seen
nothing = record { read_set = []; reads = []; scans = []; writes = [] }

-- with a get that made a call
abbrev pub with_get : Seen → Key → Option Record → Seen
with_get s key image =
    record s { read_set = s.read_set ++ (key, image) ∷ []; reads = s.reads ++ record { key = key; version = version_of image } ∷ [] }

-- with a scan that made a call: its records are added where their keys were not read
abbrev pub with_scan : Seen → Span → List Record → Seen
with_scan s span images =
    record s { read_set = with_images s.read_set images; scans = s.scans ++ record { span = span; found = reads_of images } ∷ [] }

-- with changes, one after the other
abbrev pub with_written : Seen → List Keyed → Seen
with_written s changes = record s { writes = with_writes s.read_set s.writes changes }

-- how much is recorded
abbrev pub mark_of : Seen → Mark
mark_of s = record { read_set = length s.read_set; reads = length s.reads; scans = length s.scans }

-- without what was recorded after a mark
abbrev pub forgotten : Mark → Seen → Seen
forgotten m s = record s { read_set = take m.read_set s.read_set; reads = take m.reads s.reads; scans = take m.scans s.scans }

abbrev pub same_span : Span → Span → Bool
same_span = (span_eq.ghosts).eq

-- a span was scanned
abbrev pub is_scanned : List Scan → Span → Bool
is_scanned scans span = list_any (λ s. same_span s.span span) scans

-- the tables that a transaction sees: the rows read, with its own changes laid over them
abbrev pub tables_seen : Seen → Tables
tables_seen s = with_own (tables_of_reads s.read_set) s.writes

-- The rows that it sees at an access: all rows of the read set whose keys lie there, also those of another read, with its
-- own changes laid over them, in the order of their keys.
abbrev pub overlay : Access → Seen → List Image
overlay a s = rows_at a (tables_seen s)

-- The read set has, at each key of an access, the row of these tables: a key that was not read is one that has no row.
abbrev pub Agrees : Seen → Access → Tables → Type 0
Agrees s a d = (q : Key) → in_access a q ≡ true → row_found (base_at s.read_set q) ≡ get d q

-- the row that a transaction sees at a key: what it wrote there, or else the row of what it found
abbrev pub row_with : Option Write → Option Record → Option (List Pair)
row_with None found = row_found found
row_with (Some w) found = row_of_change w.change

abbrev pub row_seen : List ReadRecord → List Write → Key → Option (List Pair)
row_seen read_set ws key = row_with (write_among ws key) (base_at read_set key)

-- the images of the rows that are seen at keys
abbrev pub images_with : Key → Option (List Pair) → List Image
images_with key None = []
images_with key (Some columns) = record { key = key; columns = columns } ∷ []

abbrev pub images_at : (Key → Option (List Pair)) → List Record → List Image
images_at f [] = []
images_at f (r ∷ rs) = images_with r.key (f r.key) ++ images_at f rs
