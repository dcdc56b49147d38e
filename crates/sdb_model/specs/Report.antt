-- The text of a report: the outcome of a run, line by line. Every line ends with LF.
use Rattle.std.specs.Prelude.{ℕ, ◌+◌, List, [], ◌∷◌, ◌++◌, length, codes, Option, None, Some, decimal}
use Rattle.std.specs.List.{flat_map}
use Rattle.std.specs.Fmt.{signed_decimal}
use Rattle.sdb_types.specs.Contents.{state_number}
use Rattle.sdb_types.specs.Order.{table_text}
use Rattle.sdb_types.specs.TxId.{id_text}
use Rattle.sdb_schema.specs.Kinds.{kind_text}
use Rattle.sdb_model.specs.Types.{Condition, Put, Kind, Record, Reply, Request, TableName, Value}
use Rattle.sdb_types.specs.declared.record.Condition.TheVariants.{Absent, Version}
use Rattle.sdb_types.specs.declared.record.Reply.TheVariants as reply
use Rattle.sdb_types.specs.declared.record.Request.TheVariants as ask
use Rattle.sdb_model.specs.Texts.{key_text_of, span_text_of, record_text_of, row_text_of, answer_text_of}
use Rattle.sdb_model.specs.declared.answer.Answer.{Answer}
use Rattle.sdb_model.specs.declared.event.Altered.{Altered}
use Rattle.sdb_model.specs.declared.event.Altered.TheVariants as altered
use Rattle.sdb_model.specs.declared.event.Event.{Event}
use Rattle.sdb_model.specs.declared.event.Event.TheVariants as event
use Rattle.sdb_model.specs.declared.event.How.{How}
use Rattle.sdb_model.specs.declared.event.How.TheVariants.{Seen, Lost, Discarded, Delayed, Broken}
use Rattle.sdb_model.specs.declared.event.Outcome.{Outcome}
use Rattle.sdb_model.specs.declared.event.Point.{Point}
use Rattle.sdb_model.specs.declared.event.TableDump.{TableDump}

---- parts of an event

-- the answer that an event gives, or `-`
abbrev pub given_text_of : Option Answer → List ℕ
given_text_of None = codes "-"
given_text_of (Some a) = answer_text_of a

-- what a write asks of the record at its key
abbrev pub condition_text_of : Condition → List ℕ
condition_text_of Absent = codes "absent"
condition_text_of (Version id state) = id_text id.0 ++ codes " " ++ signed_decimal (state_number state)

-- a record that is put, and on which condition
abbrev pub put_text_of : Put → List ℕ
put_text_of p = record_text_of p.rec ++ codes " if " ++ condition_text_of p.condition

-- how many puts, then each after a space
abbrev pub puts_text_of : List Put → List ℕ
puts_text_of b = decimal (length b) ++ flat_map (λ p. codes " " ++ put_text_of p) b

abbrev pub request_text_of : Request → List ℕ
request_text_of (ask.Get key) = codes "get " ++ key_text_of key
request_text_of (ask.Scan span) = codes "scan " ++ span_text_of span
request_text_of (ask.PutIf r condition) = codes "put " ++ record_text_of r ++ codes " if " ++ condition_text_of condition
request_text_of (ask.DeleteIf key condition) = codes "delete " ++ key_text_of key ++ codes " if " ++ condition_text_of condition
request_text_of (ask.PutAll b) = codes "putall " ++ puts_text_of b

abbrev pub how_text_of : How → List ℕ
how_text_of Seen = codes "seen"
how_text_of Lost = codes "lost"
how_text_of Discarded = codes "dropped"
how_text_of Delayed = codes "delayed"
how_text_of Broken = codes "failed"

-- a record that was found, or none
abbrev pub found_text_of : Option Record → List ℕ
found_text_of None = codes "none"
found_text_of (Some r) = record_text_of r

-- how many records, then each record after a space
abbrev pub records_text_of : List Record → List ℕ
records_text_of rs = decimal (length rs) ++ flat_map (λ r. codes " " ++ record_text_of r) rs

abbrev pub reply_text_of : Reply → List ℕ
reply_text_of (reply.Found found) = codes "found " ++ found_text_of found
reply_text_of (reply.Rows rows) = codes "rows " ++ records_text_of rows
reply_text_of reply.Applied = codes "applied"
reply_text_of (reply.NotMet found) = codes "notmet " ++ found_text_of found
reply_text_of (reply.NotAll k found) = codes "notall " ++ decimal k ++ codes " " ++ found_text_of found
reply_text_of reply.Fault = codes "fault"
reply_text_of reply.NoMemory = codes "nomemory"

---- events

abbrev pub take_text_of : ℕ → List ℕ → Option Answer → List ℕ
take_text_of client text given = codes "take " ++ decimal client ++ codes " " ++ given_text_of given ++ codes " : " ++ text

-- who asked which store for what
abbrev pub asked_text_of : ℕ → List ℕ → Request → List ℕ
asked_text_of client store request = codes "call " ++ decimal client ++ codes " " ++ store ++ codes " " ++ request_text_of request

-- what became of a request, and the reply
abbrev pub effect_text_of : How → Reply → List ℕ
effect_text_of how reply = codes " " ++ how_text_of how ++ codes " " ++ reply_text_of reply

-- what became of a call, what the client was handed, and the answer that came of it
abbrev pub came_text_of : How → Reply → Option Answer → List ℕ
came_text_of how reply given = codes " " ++ how_text_of how ++ codes " " ++ reply_text_of reply ++ codes " " ++ given_text_of given

-- which request landed, on which store
abbrev pub landed_text_of : ℕ → List ℕ → Request → List ℕ
landed_text_of number store request = codes "land " ++ decimal number ++ codes " " ++ store ++ codes " " ++ request_text_of request

abbrev pub altered_text_of : Altered → List ℕ
altered_text_of altered.Done = codes "done"
altered_text_of altered.Open = codes "open"
altered_text_of (altered.Refused k) = codes "refused " ++ decimal k

-- the column that was to be added to a table, and what became of that
abbrev pub alter_text_of : TableName → List ℕ → Kind → Altered → List ℕ
alter_text_of table column kind altered = codes "alter " ++ table_text table ++ codes " " ++ column ++ codes " " ++ kind_text kind ++ codes " " ++ altered_text_of altered

-- the line of an event, but for its number
abbrev pub event_text_of : Event → List ℕ
event_text_of (event.Take client text given) = take_text_of client text given
event_text_of (event.Call client store request how reply given) = asked_text_of client store request ++ came_text_of how reply given
event_text_of (event.Stop client) = codes "stop " ++ decimal client
event_text_of (event.Clock moment) = codes "clock " ++ signed_decimal moment
event_text_of (event.Idle client) = codes "idle " ++ decimal client
event_text_of (event.Land number store request how reply) = landed_text_of number store request ++ effect_text_of how reply
event_text_of (event.Alter table column kind altered) = alter_text_of table column kind altered

---- lines

abbrev pub event_line : ℕ → Event → List ℕ
event_line n e = decimal n ++ codes " " ++ event_text_of e ++ codes "\n"

-- the lines of events, the first with this number
abbrev pub event_lines : ℕ → List Event → List ℕ
event_lines n [] = []
event_lines n (e ∷ es) = event_line n e ++ event_lines (n + 1) es

-- a recorded transaction, and the number of the event that gives its place in the order
abbrev pub point_line : Point → List ℕ
point_line p = id_text p.id.0 ++ codes " " ++ decimal p.event ++ codes "\n"

abbrev pub row_line : List Value → List ℕ
row_line row = row_text_of row ++ codes "\n"

-- a table's name and how many rows it has, then its rows
abbrev pub table_lines : TableDump → List ℕ
table_lines t = codes "table " ++ table_text t.name ++ codes " " ++ decimal (length t.rows) ++ codes "\n" ++ flat_map row_line t.rows

-- how many follow
abbrev pub heading : List ℕ → ℕ → List ℕ
heading word count = word ++ codes " " ++ decimal count ++ codes "\n"

abbrev pub events_text_of : List Event → List ℕ
events_text_of es = heading (codes "events") (length es) ++ event_lines 1 es

abbrev pub order_text_of : List Point → List ℕ
order_text_of ps = heading (codes "order") (length ps) ++ flat_map point_line ps

abbrev pub tables_text_of : List TableDump → List ℕ
tables_text_of ts = heading (codes "tables") (length ts) ++ flat_map table_lines ts

-- what a report of these events begins with, before their lines
abbrev pub report_start_of : List Event → List ℕ
report_start_of es = codes "scalardb report 1\n" ++ heading (codes "events") (length es)

-- what it has behind the lines of its events
abbrev pub report_end_of : Outcome → List ℕ
report_end_of o = order_text_of o.order ++ tables_text_of o.tables ++ codes "end\n"

abbrev pub report_text_of : Outcome → List ℕ
report_text_of o = codes "scalardb report 1\n" ++ events_text_of o.events ++ order_text_of o.order ++ tables_text_of o.tables ++ codes "end\n"
