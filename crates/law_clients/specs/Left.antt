-- What a transaction recorded is what its writers left, and tables that transactions left one after the other.
use Rattle.std.specs.Prelude.{◌≡◌, ℕ, ℤ, true, map, List, [], ◌∷◌, Some, Bool, false, None, is_some, Contains, ◌↔◌, ◌++◌}
use Rattle.std.specs.FinMap.{get, empty}
use Rattle.law_clients.specs.Types.{Answer, Event, Key, Place, Point, Record, Statement, Table}
use Rattle.sdb_record.specs.Moved.{version_of}
use Rattle.sdb_record.specs.Rolls.{row_of_image}
use Rattle.sdb_model.specs.Exec.{Tables, find_table}
use Rattle.sdb_model.specs.Transactions.{body}
use Rattle.sdb_snapshot.specs.Reads.{base_at}
use Rattle.sdb_snapshot.specs.Seen.{Seen}
use Rattle.law_protocol.specs.Plan.{Plan}
use Rattle.law_protocol.specs.Lawful.{id}
use Rattle.law_protocol.specs.Serial.{last_writer, row_left}
use Rattle.std.specs.List.{AllByRecursion}
use Rattle.sdb_model.specs.Events.{StoreContents}
use Rattle.sdb_model.specs.Images.{row_at}
use Rattle.sdb_model.specs.Catalogs.{added, catalog_after}
use Rattle.sdb_model.specs.Serial.{AreRead, run_body}
use Rattle.law_protocol.specs.Lawful.{Labelled, protocol_state}
use Rattle.law_clients.specs.Reads.{SeenOk, work_of}
use Rattle.sdb_model.specs.ReadSet.{ReadItem, KeyRead, SpanRead, read_set_of}
use Rattle.sdb_phases.specs.Work.{Work}
use Rattle.law_clients.specs.Owner.{plan_of}
use Rattle.law_clients.specs.Body.{BodyOk}
use Rattle.law_clients.specs.Catalogs.{catalog_at_point, catalog_now}
use Rattle.sdb_model.specs.Tables.{is_data}

-- Each record that is recorded is that of some transaction, and has the row that this one left there.
abbrev pub AreLeft : (ℕ → Plan) → Seen → Type 0
AreLeft plan s = (k : Key) (b : Record) → base_at s.read_set k ≡ Some b → (u : ℕ) × (version_of (Some b) ≡ Some (id u)) × (row_of_image b ≡ row_left plan k (Some u))

-- tables that the first transactions of the order left, one after the other
pub record AreAfter (plan : ℕ → Plan) (front : List ℕ) (d : Tables) : Type 0 where
  pub row : (k : Key) → get d k ≡ row_left plan k (last_writer plan k front)

-- What a transaction of the order did: what it had read and written when its COMMIT was accepted, and when; its statements; and their
-- answers.
pub record Execution : Type 0 where
  pub seen : Seen
  pub now : ℤ
  pub body : List Statement
  pub answers : List Answer

-- Its plan is what it had read and written, and its statements come to that over any tables that agree with what was read, under the tables
-- of its point.
pub record ExecutionOk (catalog : List Table) (fit : List Table → Tables → Bool) (plan : ℕ → Plan) (past : List Labelled) (t : ℕ) (r : Execution) : Type 0 where
  pub seen : SeenOk past r.seen
  pub planned : plan t ≡ plan_of (work_of (id t) r.now r.seen)
  pub body : BodyOk (catalog_at_point catalog past t) (fit (catalog_at_point catalog past t)) r.body r.answers r.seen

-- so did each transaction of a list
abbrev pub AllExecutions : List Table → (List Table → Tables → Bool) → (ℕ → Plan) → List Labelled → (ℕ → Execution) → List ℕ → Type 0
AllExecutions catalog fit plan past ran order = AllByRecursion (λ t. ExecutionOk catalog fit plan past t (ran t)) order

-- Bodies run whole, one after the other, each under its own tables: the answers of each, and the rows at the end.
abbrev pub run_bodies : List (List Table × List Statement) → Tables → List (List Answer) × Tables
run_bodies [] d = ([], d)
run_bodies (b ∷ bs) d = ((run_body b.0 b.1 d).0 ∷ (run_bodies bs (run_body b.0 b.1 d).1).0, (run_bodies bs (run_body b.0 b.1 d).1).1)

-- a transaction's body, with the tables of its point
abbrev pub body_at_point : List Table → List Labelled → (ℕ → Execution) → ℕ → List Table × List Statement
body_at_point catalog past ran t = (catalog_at_point catalog past t, (ran t).body)

-- The transactions of the order run whole, one after the other, from these rows on: each gives its answers; and these are the rows at the
-- end, which pass the test under the last tables.
pub record RunsWhole (catalog : List Table) (fit : List Table → Tables → Bool) (past : List Labelled) (ran : ℕ → Execution) (order : List ℕ) (d e : Tables) : Type 0 where
  pub runs : run_bodies (map (body_at_point catalog past ran) order) d ≡ (map (λ t. (ran t).answers) order, e)
  pub fits : fit (catalog_now catalog past) e ≡ true

-- at each key of a table the rows that the stores show are those of these tables
abbrev pub ContainsTables : List Place → List StoreContents → Tables → Type 0
ContainsTables places store_contents e = (k : Key) → is_data k ≡ true → row_at places store_contents k ≡ get e k

-- The texts of a transaction's body read as its statements, and what they were answered is what these come to.
pub record BodyIsExecuted (events : List Event) (t : ℕ) (r : Execution) : Type 0 where
  pub read : AreRead (body events (id t)) r.body
  pub answered : map (λ s. s.answer) (body events (id t)) ≡ map Some r.answers

-- it holds of each transaction of a list
abbrev pub AllBodiesExecuted : List Table → (List Table → Tables → Bool) → (ℕ → Plan) → List Event → List Labelled → (ℕ → Execution) → List ℕ → Type 0
AllBodiesExecuted catalog fit plan events past ran order = AllByRecursion (λ t. ExecutionOk catalog fit plan past t (ran t) × BodyIsExecuted events t (ran t)) order

-- A test under a catalog, which goes on to be passed when a column is added; empty tables pass it, and no tables pass it with a row outside
-- the catalog's tables, of which none is the coordinator's.
pub record IsFitting (catalog : List Table) (fit : List Table → Tables → Bool) : Type 0 where
  pub starts : fit catalog empty ≡ true
  pub grows : (ts : List Table) (e : Event) (d : Tables) → fit ts d ≡ true → fit (added ts e) d ≡ true
  pub inside : (es : List Event) (d : Tables) (k : Key) → fit (catalog_after catalog es) d ≡ true → is_some (find_table catalog k.table) ≡ false → get d k ≡ None
  pub apart : (k : Key) → is_some (find_table catalog k.table) ≡ true → is_data k ≡ true

-- the numbers of the transactions of an order
abbrev pub ordinals_of : List Point → List ℕ
ordinals_of order = map (λ p. p.id.0) order

-- the gets and the scans of what a COMMIT took, as read items
abbrev pub reads_and_scans : Work → List ReadItem
reads_and_scans p = map KeyRead p.reads ++ map SpanRead p.scans

-- What the COMMIT of a transaction took is its plan, and its gets and scans are what its statements read.
pub record AreReads (plan : ℕ → Plan) (events : List Event) (p : Work) (t : ℕ) : Type 0 where
  pub planned : plan t ≡ plan_of p
  pub as_read : (item : ReadItem) → Contains (reads_and_scans p) item ↔ Contains (read_set_of events (id t)) item

-- this holds of each transaction whose COMMIT was accepted
abbrev pub AllAreReads : (ℕ → Plan) → List Event → List Labelled → (ℕ → Work) → Type 0
AllAreReads plan events past works = (t : ℕ) → (protocol_state past).accepted t ≡ true → AreReads plan events (works t) t
