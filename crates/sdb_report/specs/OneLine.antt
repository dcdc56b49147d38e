-- No LF in any text of a value, a key, a record, an answer or an event.
use Rattle.std.specs.Prelude.{◌≡◌, true, List, All, IfSome}
use Rattle.sdb_report.specs.Types.{Answer, Event, Key, Pair, Record, Reply, Request, Value}
use Rattle.sdb_types.specs.declared.record.Reply.TheVariants as reply
use Rattle.sdb_types.specs.declared.record.Request.TheVariants as ask
use Rattle.sdb_types.specs.declared.value.Value.TheVariants as value
use Rattle.sdb_model.specs.Plain.{is_one_line}
use Rattle.sdb_model.specs.declared.answer.Answer.TheVariants as answer
use Rattle.sdb_model.specs.declared.event.Event.TheVariants as event

abbrev pub ValueHasNoLf : Value → Type 0
ValueHasNoLf value.Null = Unit {0}
ValueHasNoLf (value.Bool b) = Unit {0}
ValueHasNoLf (value.Int n) = Unit {0}
ValueHasNoLf (value.BigInt n) = Unit {0}
ValueHasNoLf (value.Text text) = is_one_line text ≡ true
ValueHasNoLf (value.Blob bytes) = Unit {0}

abbrev pub ValuesHaveNoLf : List Value → Type 0
ValuesHaveNoLf vs = All ValueHasNoLf vs

pub record KeyHasNoLf (k : Key) : Type 0 where
  pub partition : ValuesHaveNoLf k.partition
  pub clustering : ValuesHaveNoLf k.clustering

abbrev pub ColumnsHaveNoLf : List Pair → Type 0
ColumnsHaveNoLf ps = All (λ p. ValueHasNoLf p.value) ps

pub record RecordHasNoLf (r : Record) : Type 0 where
  pub key : KeyHasNoLf r.key
  pub columns : ColumnsHaveNoLf r.columns

abbrev pub AnswerHasNoLf : Answer → Type 0
AnswerHasNoLf (answer.Rows rows) = All ValuesHaveNoLf rows
AnswerHasNoLf (answer.Count n) = Unit {0}
AnswerHasNoLf answer.Done = Unit {0}
AnswerHasNoLf answer.Committed = Unit {0}
AnswerHasNoLf (answer.Duplicate key) = KeyHasNoLf key
AnswerHasNoLf (answer.Busy key id at) = KeyHasNoLf key
AnswerHasNoLf (answer.Conflict key found) = KeyHasNoLf key × IfSome found RecordHasNoLf
AnswerHasNoLf (answer.Expired id) = Unit {0}
AnswerHasNoLf answer.Faulted = Unit {0}
AnswerHasNoLf (answer.Unknown id) = Unit {0}
AnswerHasNoLf (answer.BadRecord key) = KeyHasNoLf key
AnswerHasNoLf (answer.Refused refusal) = Unit {0}
AnswerHasNoLf answer.Vacuuming = Unit {0}
AnswerHasNoLf answer.OpenTransactions = Unit {0}
AnswerHasNoLf answer.NoMemory = Unit {0}

abbrev pub RequestHasNoLf : Request → Type 0
RequestHasNoLf (ask.Get key) = KeyHasNoLf key
RequestHasNoLf (ask.Scan span) = IfSome span.partition ValuesHaveNoLf
RequestHasNoLf (ask.PutIf r condition) = RecordHasNoLf r
RequestHasNoLf (ask.DeleteIf key condition) = KeyHasNoLf key
RequestHasNoLf (ask.PutAll b) = All (λ p. RecordHasNoLf p.rec) b

abbrev pub ReplyHasNoLf : Reply → Type 0
ReplyHasNoLf (reply.Found found) = IfSome found RecordHasNoLf
ReplyHasNoLf (reply.Rows rows) = All RecordHasNoLf rows
ReplyHasNoLf reply.Applied = Unit {0}
ReplyHasNoLf (reply.NotMet found) = IfSome found RecordHasNoLf
ReplyHasNoLf (reply.NotAll k found) = IfSome found RecordHasNoLf
ReplyHasNoLf reply.Fault = Unit {0}
ReplyHasNoLf reply.NoMemory = Unit {0}

abbrev pub EventHasNoLf : Event → Type 0
EventHasNoLf (event.Take client text given) = (is_one_line text ≡ true) × IfSome given AnswerHasNoLf
EventHasNoLf (event.Call client store request how reply given) = RequestHasNoLf request × ReplyHasNoLf reply × IfSome given AnswerHasNoLf
EventHasNoLf (event.Stop client) = Unit {0}
EventHasNoLf (event.Clock moment) = Unit {0}
EventHasNoLf (event.Idle client) = Unit {0}
EventHasNoLf (event.Land number store request how reply) = RequestHasNoLf request × ReplyHasNoLf reply
EventHasNoLf (event.Alter table column kind altered) = Unit {0}
