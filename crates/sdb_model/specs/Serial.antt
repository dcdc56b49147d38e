-- Serializability: whole transactions, run one after the other on plain tables in the order of their points, with each column added in its
-- place among them, give the answers that clients got and the final rows.
use Rattle.std.specs.Prelude.{◌≡◌, ◌⊎◌, ℕ, ◌<◌, ◌^◌, if◌then◌else◌, List, [], ◌∷◌, ◌++◌, map, filter, drop, take, Option, Some, None, is_some, Contains}
use Rattle.std.specs.List.{filter_map}
use Rattle.std.specs.Option.{option_and_then}
use Rattle.std.specs.FinMap.{get, empty}
use Rattle.sdb_model.specs.Types.{Column, Key, Place, Table, TableName, TxId}
use Rattle.sdb_model.specs.declared.answer.Answer.{Answer}
use Rattle.sdb_model.specs.declared.answer.Answer.TheVariants as answer
use Rattle.sdb_model.specs.declared.event.Altered.TheVariants as altered
use Rattle.sdb_model.specs.declared.event.Event.{Event}
use Rattle.sdb_model.specs.declared.event.Event.TheVariants as event
use Rattle.sdb_model.specs.declared.event.Point.{Point}
use Rattle.sdb_model.specs.declared.event.TableDump.{TableDump}
use Rattle.sdb_model.specs.declared.event.Outcome.{Outcome}
use Rattle.sdb_model.specs.declared.script.Script.{Script}
use Rattle.sdb_model.specs.declared.statement.Statement.{Statement}
use Rattle.sdb_model.specs.Sql.{Reads}
use Rattle.sdb_model.specs.Exec.{Tables, exec, find_table, all_rows, is_row_of, sorted, projected}
use Rattle.sdb_model.specs.Catalogs.{catalog_after, with_added}
use Rattle.sdb_model.specs.Events.{StoreContents, IsTrace}
use Rattle.sdb_model.specs.Images.{row_at}
use Rattle.sdb_model.specs.Follows.{Follows}
use Rattle.sdb_model.specs.Transactions.{Executed, answered, statements_by, begun, client_of, commit_of, body, Recorded, IsOrder}

---- serial runs

-- the answers to a body's statements, run one after the other, and the tables after them
abbrev pub run_body : List Table → List Statement → Tables → List Answer × Tables
run_body catalog [] d = ([], d)
run_body catalog (s ∷ ss) d = ((exec catalog s d).0 ∷ (run_body catalog ss (exec catalog s d).1).0, (run_body catalog ss (exec catalog s d).1).1)

-- A step of a serial run: a body, or a column that is added to a table.
pub data Step : Type 0 where
  Body : (statements : List Statement) → Step
  Added : (table : TableName) (column : Column) → Step

-- Steps one after the other: the answers of each body, run whole, and the last tables. A column is added to the catalog, and changes no row:
-- a row that has no value there is NULL there.
abbrev pub serial : List Table → List Step → Tables → List (List Answer) × Tables
serial catalog [] d = ([], d)
serial catalog (Body b ∷ ss) d = ((run_body catalog b d).0 ∷ (serial catalog ss (run_body catalog b d).1).0, (serial catalog ss (run_body catalog b d).1).1)
serial catalog (Added table c ∷ ss) d = serial (with_added catalog table c) ss d

---- rows that are printed

-- the rows of a table, in its order, all columns in name order
abbrev pub dump_of : Tables → Table → TableDump
dump_of d t = record { name = t.name; rows = map (projected t None) (sorted t (filter (is_row_of t) (all_rows d))) }

-- the rows of each table of a catalog, in the order of the tables' names
abbrev pub dumps_of : List Table → Tables → List TableDump
dumps_of catalog d = map (dump_of d) catalog

-- Plain tables are the committed images of what the stores hold: at each key of a table of the catalog the row of its
-- image, and no other row.
abbrev pub AreImages : List Table → List Place → List StoreContents → Tables → Type 0
AreImages catalog places store_contents d = (key : Key) → get d key ≡ (if is_some (find_table catalog key.table) then row_at places store_contents key else None)

---- serial

-- the statements that texts read as
abbrev pub AreRead : List Executed → List Statement → Type 0
AreRead [] [] = Unit {0}
AreRead [] (s ∷ ss) = ⊥
AreRead (x ∷ xs) [] = ⊥
AreRead (x ∷ xs) (s ∷ ss) = Reads x.text s × AreRead xs ss

-- the column that an event added
abbrev pub addition : Event → Option Step
addition (event.Alter table column kind altered.Done) = Some (Added table (record { name = column; kind = kind }))
addition e = None

abbrev pub additions : List Event → List Step
additions events = filter_map addition events

-- The steps of a run after its first n events: the bodies of the transactions of an order, as statements, each at its point, and the columns
-- that were added, each at its event.
abbrev pub AreSteps : List Event → ℕ → List Point → List Step → Type 0
AreSteps events n [] steps = steps ≡ additions (drop n events)
AreSteps events n (p ∷ ps) steps =
    (b : List Statement) × (later : List Step) × (steps ≡ additions (drop n (take p.event events)) ++ Body b ∷ later) × AreRead (body events p.id) b × AreSteps events p.event ps later

-- the answers that a transaction's client was given to the statements of its body
abbrev pub answers_given : List Event → Point → List (Option Answer)
answers_given events p = map (λ s. s.answer) (body events p.id)

-- the answer to a transaction's COMMIT, if it was accepted and answered
abbrev pub commit_answer : List Event → TxId → Option Answer
commit_answer events id = option_and_then (λ s. s.answer) (commit_of events id)

-- A statement is the COMMIT of a transaction of its client, and that transaction is recorded.
pub record IsRecordedCommit (places : List Place) (events : List Event) (closing : List StoreContents) (client : ℕ) (s : Executed) : Type 0 where
  pub id : TxId
  pub fits : id.0 < 2 ^ 128
  pub owner : client_of id ≡ client
  pub commit : commit_of events id ≡ Some s
  pub recorded : Recorded places closing id

-- Nothing but the COMMIT of a recorded transaction is answered Committed, whichever client takes it.
abbrev pub CommittedIsOwned : List Place → List Event → List StoreContents → Type 0
CommittedIsOwned places events closing = (client : ℕ) (s : Executed) → Contains (statements_by client events) s → s.answer ≡ Some answer.Committed → IsRecordedCommit places events closing client s

-- The answers and rows of a run are those of its recorded transactions, run whole in the order of their points from empty
-- tables, with the columns that were added; the rows are the committed images of what the stores hold in the end, with all columns of the
-- last catalog; each statement that is answered Committed is the COMMIT of a recorded transaction; and the COMMIT of each of these is
-- answered Committed, Unknown or not at all.
pub record IsSerial (catalog : List Table) (places : List Place) (events : List Event) (closing : List StoreContents) (order : List Point) (tables : List TableDump) : Type 0 where
  pub steps : List Step
  pub read : AreSteps events 0 order steps
  pub answers : map (answers_given events) order ≡ map (map Some) (serial catalog steps empty).0
  pub printed : tables ≡ dumps_of (catalog_after catalog events) (serial catalog steps empty).1
  pub images : AreImages catalog places closing (serial catalog steps empty).1
  pub committed : (id : TxId) → id.0 < 2 ^ 128 → commit_answer events id ≡ Some answer.Committed → Recorded places closing id
  pub owned : CommittedIsOwned places events closing
  pub known : (id : TxId) → id.0 < 2 ^ 128 → Recorded places closing id → (commit_answer events id ≡ Some answer.Committed) ⊎ (commit_answer events id ≡ Some (answer.Unknown id)) ⊎ (commit_answer events id ≡ None)

---- real time

-- one transaction comes before another in an order
pub record Precedes (order : List Point) (early late : TxId) : Type 0 where
  pub front : List Point
  pub middle : List Point
  pub back : List Point
  pub at : ℕ
  pub later_at : ℕ
  pub same : order ≡ front ++ record { id = early; event = at } ∷ middle ++ record { id = late; event = later_at } ∷ back

-- A recorded transaction that began after the COMMIT of another was answered Committed comes after it in the order.
abbrev pub TransactionsInRealTime : List Place → List Event → List StoreContents → List Point → Type 0
TransactionsInRealTime places events closing order =
    (early late : TxId) → early.0 < 2 ^ 128 → late.0 < 2 ^ 128
    → (s : Executed) → commit_of events early ≡ Some s → s.answer ≡ Some answer.Committed
    → Recorded places closing late → (m n : ℕ) → answered s ≡ Some m → begun events late ≡ Some n → m < n
    → Precedes order early late

-- The same in terms of statements: whatever statement was answered Committed, a recorded transaction that began after that answer
-- comes after the transaction of that statement in the order.
abbrev pub RespectsRealTime : List Place → List Event → List StoreContents → List Point → Type 0
RespectsRealTime places events closing order =
    (client : ℕ) (s : Executed) → Contains (statements_by client events) s → s.answer ≡ Some answer.Committed
    → (late : TxId) → late.0 < 2 ^ 128 → Recorded places closing late → (m n : ℕ) → answered s ≡ Some m → begun events late ≡ Some n → m < n
    → (early : TxId) × (commit_of events early ≡ Some s) × Precedes order early late

---- the headline

-- One run of a script, from what the stores held to what they hold: its events are those of the script's moves; one trace of
-- the stores agrees with them; the recorded transactions, each once, ordered by the end of their last prepare and run whole
-- on plain tables, give the answers that clients got and the final rows; and that order respects real time.
pub record IsRun (script : Script) (opening closing : List StoreContents) (outcome : Outcome) : Type 0 where
  pub moments : List (List StoreContents)
  pub follows : Follows script outcome.events
  pub consistent : IsTrace script.places outcome.events opening moments closing
  pub order : IsOrder script.places outcome.events closing outcome.order
  pub answered : IsSerial script.catalog script.places outcome.events closing outcome.order outcome.tables
  pub real_time : RespectsRealTime script.places outcome.events closing outcome.order
