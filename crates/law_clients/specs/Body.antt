-- The answers and the writes of a transaction's statements, over any tables that agree with what was read.
use Rattle.std.specs.Prelude.{◌≡◌, Bool, true, false, List, None}
use Rattle.std.specs.List.{AllByRecursion}
use Rattle.std.specs.FinMap.{get}
use Rattle.law_clients.specs.Types.{Access, Answer, Key, Keyed, Read, Scan, Statement, Table}
use Rattle.sdb_types.specs.Contents.{in_span}
use Rattle.sdb_record.specs.declared.access.Access.TheVariants as access
use Rattle.sdb_model.specs.Access.{rows_at, with_changes}
use Rattle.sdb_model.specs.Exec.{Tables, exec}
use Rattle.sdb_model.specs.Serial.{run_body}
use Rattle.law_protocol.specs.Lawful.{Labelled}
use Rattle.sdb_snapshot.specs.Reads.{base_at, is_key_read}
use Rattle.sdb_snapshot.specs.Rows.{row_found, with_own}
use Rattle.sdb_snapshot.specs.Seen.{Seen, is_scanned, overlay}
use Rattle.law_clients.specs.Reads.{SeenOk, is_found}

---- tables that agree, item by item of the read set

-- the row that a get found is there
abbrev pub ReadAgrees : Seen → Tables → Read → Type 0
ReadAgrees s d r = row_found (base_at s.read_set r.key) ≡ get d r.key

-- Where a scan found a record its row is there; and where it found none there is none, whatever a later get found.
abbrev pub ScanAgrees : Seen → Tables → Scan → Type 0
ScanAgrees s d x = (q : Key) → in_span x.span q ≡ true → (is_found x q ≡ true → row_found (base_at s.read_set q) ≡ get d q) × (is_found x q ≡ false → get d q ≡ None)

-- Tables agree with each thing that was recorded. It goes item by item: a later read adds to what is asked, and changes none of it.
pub record AgreesAll (s : Seen) (d : Tables) : Type 0 where
  pub reads : AllByRecursion (ReadAgrees s d) s.reads
  pub scans : AllByRecursion (ScanAgrees s d) s.scans

---- bodies

-- Over any tables that agree with each thing that was recorded, the statements so far give these answers and leave the tables with
-- these writes over them. The same holds of tables that pass a test, as that all rows fit; those that are left pass it too.
pub record BodyOk (catalog : List Table) (fit : Tables → Bool) (body : List Statement) (answers : List Answer) (s : Seen) : Type 0 where
  pub runs : (d : Tables) → fit d ≡ true → AgreesAll s d → run_body catalog body d ≡ (answers, with_own d s.writes)
  pub fits : (d : Tables) → fit d ≡ true → AgreesAll s d → fit (with_own d s.writes) ≡ true

-- an access can be answered from what was read: its key was read, or its span scanned
abbrev pub IsCovered : Seen → Access → Type 0
IsCovered s (access.Get key) = is_key_read s.read_set key ≡ true
IsCovered s (access.Scan span) = is_scanned s.scans span ≡ true

-- On all tables that fit and have the rows there that the transaction sees, a statement gives that answer and leaves the tables
-- with these changes over them, which fit too.
abbrev pub AnswersOn : List Table → (Tables → Bool) → Seen → Statement → Access → Answer → List Keyed → Type 0
AnswersOn catalog fit s statement a answer changes = (e : Tables) → fit e ≡ true → rows_at a e ≡ overlay a s → (exec catalog statement e ≡ (answer, with_changes e changes)) × (fit (with_changes e changes) ≡ true)

-- What a transaction has read and written after some events, the statements that it ran, and their answers, to which these come.
pub record Body : Type 0 where
  pub past : List Labelled
  pub catalog : List Table
  pub fit : Tables → Bool
  pub statements : List Statement
  pub answers : List Answer
  pub seen : Seen
  pub ok : SeenOk past seen
  pub comes : BodyOk catalog fit statements answers seen

-- Statements come to these answers, and to what is then read and written, over the same catalog.
abbrev pub ComeTo : Body → List Statement → List Answer → Seen → Type 0
ComeTo b statements answers seen = BodyOk b.catalog b.fit statements answers seen

-- A statement whose access was read, with its answer from the rows that the transaction sees there, and its changes.
pub record NextStatement (b : Body) : Type 0 where
  pub statement : Statement
  pub a : Access
  pub answer : Answer
  pub changes : List Keyed
  pub covered : IsCovered b.seen a
  pub answers : AnswersOn b.catalog b.fit b.seen statement a answer changes
