-- Plain outcomes: those that a report shows in full, so that no two of them have one report.
use Rattle.std.specs.Prelude.{◌≡◌, ◌⊎◌, ◌<◌, ◌^◌, ◌==◌, ℕ, Bool, true, not, ◌&&◌, List, [], ◌∷◌, length, All, Option, IfSome, FitsSigned, slice_get, Some}
use Rattle.std.specs.Int.{w64}
use Rattle.std.specs.List.{list_all}
use Rattle.std.specs.Ordering.{is_lt}
use Rattle.std.specs.Str.{IsUtf8}
use Rattle.sdb_types.specs.Fits.{value_fits, key_fits, record_fits}
use Rattle.sdb_types.specs.Identifier.{is_name}
use Rattle.sdb_types.specs.Order.{table_cmp}
use Rattle.sdb_model.specs.Types.{Condition, Key, Put, Record, Reply, Request, Span, TableName, TxId, Value}
use Rattle.sdb_types.specs.declared.record.Condition.TheVariants.{Absent, Version}
use Rattle.sdb_types.specs.declared.record.Reply.TheVariants as reply
use Rattle.sdb_types.specs.declared.record.Request.TheVariants as ask
use Rattle.sdb_model.specs.declared.answer.Answer.{Answer}
use Rattle.sdb_model.specs.declared.answer.Answer.TheVariants as answer
use Rattle.sdb_model.specs.declared.answer.Refusal.{Refusal}
use Rattle.sdb_model.specs.declared.event.Altered.{Altered}
use Rattle.sdb_model.specs.declared.event.Altered.TheVariants as altered
use Rattle.sdb_model.specs.declared.event.Event.{Event}
use Rattle.sdb_model.specs.declared.event.Event.TheVariants as event
use Rattle.sdb_model.specs.declared.event.How.TheVariants.{Seen, Broken}
use Rattle.sdb_model.specs.declared.event.Outcome.{Outcome}
use Rattle.sdb_model.specs.declared.event.Point.{Point}
use Rattle.sdb_model.specs.declared.event.TableDump.{TableDump}
use Rattle.sdb_model.specs.Report.{event_text_of}
use Rattle.sdb_model.specs.Texts.{row_text_of}
use Rattle.sdb_model.specs.Follows.{texts_of}
use Rattle.sdb_model.specs.declared.script.Script.{Script}

---- what the types keep of every value

-- a list that a machine can hold
abbrev pub is_counted : {X : Type 0} → List X → Type 0
is_counted xs = length xs < 2 ^ 64

abbrev pub id_is_plain : TxId → Type 0
id_is_plain id = id.0 < 2 ^ 128

pub record table_is_plain (t : TableName) : Type 0 where
  pub ns : is_name t.ns ≡ true
  pub table : is_name t.table ≡ true

abbrev pub values_are_plain : List Value → Type 0
values_are_plain vs = All value_fits vs

pub record span_is_plain (s : Span) : Type 0 where
  pub table : table_is_plain s.table
  pub partition : IfSome s.partition values_are_plain

abbrev pub condition_is_plain : Condition → Type 0
condition_is_plain Absent = Unit {0}
condition_is_plain (Version id state) = id_is_plain id

pub record put_is_plain (p : Put) : Type 0 where
  pub rec : record_fits p.rec
  pub condition : condition_is_plain p.condition

abbrev pub request_is_plain : Request → Type 0
request_is_plain (ask.Get key) = key_fits key
request_is_plain (ask.Scan span) = span_is_plain span
request_is_plain (ask.PutIf r condition) = record_fits r × condition_is_plain condition
request_is_plain (ask.DeleteIf key condition) = key_fits key × condition_is_plain condition
request_is_plain (ask.PutAll b) = is_counted b × All put_is_plain b

abbrev pub reply_is_plain : Reply → Type 0
reply_is_plain (reply.Found found) = IfSome found record_fits
reply_is_plain (reply.Rows rows) = is_counted rows × All record_fits rows
reply_is_plain reply.Applied = Unit {0}
reply_is_plain (reply.NotMet found) = IfSome found record_fits
reply_is_plain (reply.NotAll k found) = (k < 2 ^ 32) × IfSome found record_fits
reply_is_plain reply.Fault = Unit {0}
reply_is_plain reply.NoMemory = Unit {0}

pub record refusal_is_plain (refusal : Refusal) : Type 0 where
  pub kind : refusal.kind < 2 ^ 8
  pub place : refusal.place < 2 ^ 32

---- answers

-- the record that a conflict found at its key has that key
pub record IsFoundAt (key : Key) (r : Record) : Type 0 where
  pub fits : record_fits r
  pub key_is : r.key ≡ key

abbrev pub IsPlainAnswer : Answer → Type 0
IsPlainAnswer (answer.Rows rows) = is_counted rows × All values_are_plain rows
IsPlainAnswer (answer.Count n) = n < 2 ^ 64
IsPlainAnswer answer.Done = Unit {0}
IsPlainAnswer answer.Committed = Unit {0}
IsPlainAnswer (answer.Duplicate key) = key_fits key
IsPlainAnswer (answer.Busy key id at) = key_fits key × id_is_plain id × FitsSigned w64 at
IsPlainAnswer (answer.Conflict key found) = key_fits key × IfSome found (IsFoundAt key)
IsPlainAnswer (answer.Expired id) = id_is_plain id
IsPlainAnswer answer.Faulted = Unit {0}
IsPlainAnswer (answer.Unknown id) = id_is_plain id
IsPlainAnswer (answer.BadRecord key) = key_fits key
IsPlainAnswer (answer.Refused refusal) = refusal_is_plain refusal
IsPlainAnswer answer.Vacuuming = Unit {0}
IsPlainAnswer answer.OpenTransactions = Unit {0}
IsPlainAnswer answer.NoMemory = Unit {0}

abbrev pub IsPlainGiven : Option Answer → Type 0
IsPlainGiven given = IfSome given IsPlainAnswer

---- events

abbrev pub altered_is_plain : Altered → Type 0
altered_is_plain altered.Done = Unit {0}
altered_is_plain altered.Open = Unit {0}
altered_is_plain (altered.Refused k) = k < 2 ^ 8

-- the parts of an event, each with what its type keeps, each Conflict with a record of its own key, and each landing as a store
-- answers it
abbrev pub HasPlainParts : Event → Type 0
HasPlainParts (event.Take client text given) = (client < 2 ^ 32) × IsUtf8 text × IsPlainGiven given
HasPlainParts (event.Call client store request how reply given) =
    (client < 2 ^ 32) × (is_name store ≡ true) × request_is_plain request × reply_is_plain reply × IsPlainGiven given
HasPlainParts (event.Stop client) = client < 2 ^ 32
HasPlainParts (event.Clock moment) = FitsSigned w64 moment
HasPlainParts (event.Idle client) = client < 2 ^ 32
HasPlainParts (event.Land number store request how reply) =
    (number < 2 ^ 32) × (is_name store ≡ true) × request_is_plain request × reply_is_plain reply × ((how ≡ Seen) ⊎ (how ≡ Broken))
HasPlainParts (event.Alter table column kind altered) = table_is_plain table × (is_name column ≡ true) × altered_is_plain altered

abbrev pub is_no_lf : ℕ → Bool
is_no_lf b = not (b == 10)

-- a text without an LF
abbrev pub is_one_line : List ℕ → Bool
is_one_line text = list_all is_no_lf text

-- No text in the event has an LF: what the report says of it is one line.
pub record IsPlainEvent (e : Event) : Type 0 where
  pub parts : HasPlainParts e
  pub one_line : is_one_line (event_text_of e) ≡ true

---- order and tables

pub record IsPlainPoint (p : Point) : Type 0 where
  pub id : id_is_plain p.id
  pub event : p.event < 2 ^ 64

-- No text in the row has an LF.
pub record IsPlainRow (row : List Value) : Type 0 where
  pub fits : values_are_plain row
  pub one_line : is_one_line (row_text_of row) ≡ true

pub record IsPlainDump (t : TableDump) : Type 0 where
  pub name : table_is_plain t.name
  pub counted : is_counted t.rows
  pub rows : All IsPlainRow t.rows

abbrev pub starts_after : TableName → List TableDump → Bool
starts_after name [] = true
starts_after name (t ∷ ts) = is_lt (table_cmp name t.name)

-- the names of the tables rise strictly
abbrev pub are_rising : List TableDump → Bool
are_rising [] = true
are_rising (t ∷ ts) = starts_after t.name ts && are_rising ts

---- outcomes

pub record IsPlain (o : Outcome) : Type 0 where
  pub events_counted : is_counted o.events
  pub events : All IsPlainEvent o.events
  pub order_counted : is_counted o.order
  pub order : All IsPlainPoint o.order
  pub tables_counted : is_counted o.tables
  pub tables : All IsPlainDump o.tables
  pub rising : are_rising o.tables ≡ true

-- No statement of a script has an LF.
abbrev pub HasLines : Script → Type 0
HasLines script = (c i : ℕ) (text : List ℕ) → slice_get (texts_of script.clients c) i ≡ Some text → is_one_line text ≡ true
