-- Reading the parts of a report's lines: answers, requests, replies, events, points and rows.
use Rattle.std.specs.Prelude.{◌^◌, ℕ, Bool, true, false, if◌then◌else◌, List, [], ◌∷◌, codes, decimal, Option, Some, None}
use Rattle.sdb_report.specs.Types.{Altered, Answer, Condition, Event, How, Key, Put, Kind, Record, Reply, Request, State, TableName, Value}
use Rattle.sdb_schema.specs.declared.table.Kind.TheVariants as kind
use Rattle.sdb_types.specs.declared.record.Condition.TheVariants.{Absent, Version}
use Rattle.sdb_types.specs.declared.record.Reply.TheVariants as reply
use Rattle.sdb_types.specs.declared.record.Request.TheVariants as ask
use Rattle.sdb_types.specs.declared.record.State.TheVariants.{Prepared, Deleted, Committed, Aborted}
use Rattle.sdb_model.specs.declared.answer.Answer.TheVariants as answer
use Rattle.sdb_model.specs.declared.event.Altered.TheVariants as altered
use Rattle.sdb_model.specs.declared.event.Event.TheVariants as event
use Rattle.sdb_model.specs.declared.event.How.TheVariants.{Seen, Lost, Discarded, Delayed, Broken}
use Rattle.sdb_report.specs.FieldReading.{Read, case_of, after, text_of, name_at, natural_at, natural_below, integer_at, counted, row_at, table_at, key_at, span_at, columns_at, record_at, id_at}
use Rattle.sdb_types.specs.Options.{◌>>=◌}

-- what is read, made into something else
abbrev pub made : {X Y : Type 0} → (X → Y) → Read X → Read Y
made f read = read >>= λ x. Some (f x.0, x.1)

---- answers

abbrev pub behind_space : {X : Type 0} → (List ℕ → Read X) → List ℕ → Read X
behind_space item_at bytes = after (codes " ") bytes >>= item_at

-- how many items, and each after a space
abbrev pub items_at : {X : Type 0} → (List ℕ → Read X) → List ℕ → Read (List X)
items_at item_at bytes = natural_at bytes >>= λ n. counted (behind_space item_at) n.0 [] n.1

unfoldable pub rows_at : List ℕ → Read (List (List Value))
rows_at bytes = items_at row_at bytes

unfoldable pub busy_at : List ℕ → Read Answer
busy_at bytes = key_at bytes >>= λ key. behind_space id_at key.1 >>= λ id. behind_space integer_at id.1 >>= λ at. Some (answer.Busy key.0 id.0 at.0, at.1)

unfoldable pub found_columns_at : Key → List ℕ → Read (Option Record)
found_columns_at key bytes = case_of (after (codes "none") bytes)
    (λ rest. Some (None, rest))
    (columns_at bytes >>= λ columns. Some (Some (record { key = key; columns = columns.0 }), columns.1))

unfoldable pub conflict_at : List ℕ → Read Answer
conflict_at bytes = key_at bytes >>= λ key. behind_space (found_columns_at key.0) key.1 >>= λ found. Some (answer.Conflict key.0 found.0, found.1)

unfoldable pub refusal_at : List ℕ → Read Answer
refusal_at bytes = natural_below (2 ^ 8) bytes >>= λ kind. behind_space (natural_below (2 ^ 32)) kind.1 >>= λ place.
    Some (answer.Refused (record { kind = kind.0; place = place.0 }), place.1)

abbrev pub rows_answer_at : List ℕ → Read Answer
rows_answer_at bytes = made answer.Rows (rows_at bytes)

abbrev pub count_at : List ℕ → Read Answer
count_at bytes = made answer.Count (natural_at bytes)

abbrev pub duplicate_at : List ℕ → Read Answer
duplicate_at bytes = made answer.Duplicate (key_at bytes)

abbrev pub expired_at : List ℕ → Read Answer
expired_at bytes = made answer.Expired (id_at bytes)

abbrev pub unknown_at : List ℕ → Read Answer
unknown_at bytes = made answer.Unknown (id_at bytes)

abbrev pub bad_record_at : List ℕ → Read Answer
bad_record_at bytes = made answer.BadRecord (key_at bytes)

-- the answers that are more than a word
unfoldable pub long_answer_at : List ℕ → Read Answer
long_answer_at bytes =
    case_of (after (codes "rows ") bytes) rows_answer_at
    (case_of (after (codes "count ") bytes) count_at
    (case_of (after (codes "duplicate ") bytes) duplicate_at
    (case_of (after (codes "busy ") bytes) busy_at
    (case_of (after (codes "conflict ") bytes) conflict_at
    (case_of (after (codes "expired ") bytes) expired_at
    (case_of (after (codes "unknown ") bytes) unknown_at
    (case_of (after (codes "badrecord ") bytes) bad_record_at
    (case_of (after (codes "refused ") bytes) refusal_at None))))))))

unfoldable pub answer_at : List ℕ → Read Answer
answer_at bytes =
    case_of (after (codes "done") bytes) (λ rest. Some (answer.Done, rest))
    (case_of (after (codes "committed") bytes) (λ rest. Some (answer.Committed, rest))
    (case_of (after (codes "faulted") bytes) (λ rest. Some (answer.Faulted, rest))
    (case_of (after (codes "vacuuming") bytes) (λ rest. Some (answer.Vacuuming, rest))
    (case_of (after (codes "opentransactions") bytes) (λ rest. Some (answer.OpenTransactions, rest))
    (case_of (after (codes "nomemory") bytes) (λ rest. Some (answer.NoMemory, rest))
    (long_answer_at bytes))))))

unfoldable pub given_at : List ℕ → Read (Option Answer)
given_at bytes = case_of (after (codes "-") bytes) (λ rest. Some (None, rest)) (answer_at bytes >>= λ a. Some (Some a.0, a.1))

---- requests and replies

unfoldable pub state_at : List ℕ → Read State
state_at bytes =
    case_of (after (codes "1") bytes) (λ rest. Some (Prepared, rest))
    (case_of (after (codes "2") bytes) (λ rest. Some (Deleted, rest))
    (case_of (after (codes "3") bytes) (λ rest. Some (Committed, rest))
    (case_of (after (codes "4") bytes) (λ rest. Some (Aborted, rest)) None)))

unfoldable pub version_at : List ℕ → Read Condition
version_at bytes = id_at bytes >>= λ id. behind_space state_at id.1 >>= λ state. Some (Version id.0 state.0, state.1)

unfoldable pub condition_at : List ℕ → Read Condition
condition_at bytes = case_of (after (codes "absent") bytes) (λ rest. Some (Absent, rest)) (version_at bytes)

abbrev pub get_at : List ℕ → Read Request
get_at bytes = made ask.Get (key_at bytes)

abbrev pub scan_at : List ℕ → Read Request
scan_at bytes = made ask.Scan (span_at bytes)

unfoldable pub put_at : List ℕ → Read Request
put_at bytes = record_at bytes >>= λ r. after (codes " if ") r.1 >>= λ rest. condition_at rest >>= λ condition. Some (ask.PutIf r.0 condition.0, condition.1)

unfoldable pub delete_at : List ℕ → Read Request
delete_at bytes = key_at bytes >>= λ key. after (codes " if ") key.1 >>= λ rest. condition_at rest >>= λ condition. Some (ask.DeleteIf key.0 condition.0, condition.1)

-- a record that is put, and on which condition
unfoldable pub one_put_at : List ℕ → Read Put
one_put_at bytes = record_at bytes >>= λ r. after (codes " if ") r.1 >>= λ rest. condition_at rest >>= λ condition. Some (record { rec = r.0; condition = condition.0 }, condition.1)

unfoldable pub puts_at : List ℕ → Read (List Put)
puts_at bytes = items_at one_put_at bytes

abbrev pub put_all_at : List ℕ → Read Request
put_all_at bytes = made ask.PutAll (puts_at bytes)

unfoldable pub request_at : List ℕ → Read Request
request_at bytes =
    case_of (after (codes "get ") bytes) get_at
    (case_of (after (codes "scan ") bytes) scan_at
    (case_of (after (codes "put ") bytes) put_at
    (case_of (after (codes "delete ") bytes) delete_at
    (case_of (after (codes "putall ") bytes) put_all_at None))))

unfoldable pub how_at : List ℕ → Read How
how_at bytes =
    case_of (after (codes "seen") bytes) (λ rest. Some (Seen, rest))
    (case_of (after (codes "lost") bytes) (λ rest. Some (Lost, rest))
    (case_of (after (codes "dropped") bytes) (λ rest. Some (Discarded, rest))
    (case_of (after (codes "delayed") bytes) (λ rest. Some (Delayed, rest))
    (case_of (after (codes "failed") bytes) (λ rest. Some (Broken, rest)) None))))

-- what became of a landing: its store performed it or failed
unfoldable pub landed_how_at : List ℕ → Read How
landed_how_at bytes =
    case_of (after (codes "seen") bytes) (λ rest. Some (Seen, rest))
    (case_of (after (codes "failed") bytes) (λ rest. Some (Broken, rest)) None)

-- A namespace may be `none`: so a record is tried first.
unfoldable pub found_at : List ℕ → Read (Option Record)
found_at bytes = case_of (record_at bytes)
    (λ r. Some (Some r.0, r.1))
    (after (codes "none") bytes >>= λ rest. Some (None, rest))

unfoldable pub records_at : List ℕ → Read (List Record)
records_at bytes = items_at record_at bytes

abbrev pub found_reply_at : List ℕ → Read Reply
found_reply_at bytes = made reply.Found (found_at bytes)

abbrev pub rows_reply_at : List ℕ → Read Reply
rows_reply_at bytes = made reply.Rows (records_at bytes)

abbrev pub not_met_at : List ℕ → Read Reply
not_met_at bytes = made reply.NotMet (found_at bytes)

unfoldable pub not_all_at : List ℕ → Read Reply
not_all_at bytes = natural_below (2 ^ 32) bytes >>= λ place. behind_space found_at place.1 >>= λ found. Some (reply.NotAll place.0 found.0, found.1)

unfoldable pub reply_at : List ℕ → Read Reply
reply_at bytes =
    case_of (after (codes "found ") bytes) found_reply_at
    (case_of (after (codes "rows ") bytes) rows_reply_at
    (case_of (after (codes "applied") bytes) (λ rest. Some (reply.Applied, rest))
    (case_of (after (codes "notmet ") bytes) not_met_at
    (case_of (after (codes "fault") bytes) (λ rest. Some (reply.Fault, rest))
    (case_of (after (codes "nomemory") bytes) (λ rest. Some (reply.NoMemory, rest))
    (case_of (after (codes "notall ") bytes) not_all_at None))))))

---- added columns

unfoldable pub kind_at : List ℕ → Read Kind
kind_at bytes =
    case_of (after (codes "BOOLEAN") bytes) (λ rest. Some (kind.Boolean, rest))
    (case_of (after (codes "INT") bytes) (λ rest. Some (kind.Int, rest))
    (case_of (after (codes "BIGINT") bytes) (λ rest. Some (kind.BigInt, rest))
    (case_of (after (codes "TEXT") bytes) (λ rest. Some (kind.Text, rest))
    (case_of (after (codes "BLOB") bytes) (λ rest. Some (kind.Blob, rest)) None))))

abbrev pub refused_at : List ℕ → Read Altered
refused_at bytes = made altered.Refused (natural_below (2 ^ 8) bytes)

unfoldable pub altered_at : List ℕ → Read Altered
altered_at bytes =
    case_of (after (codes "done") bytes) (λ rest. Some (altered.Done, rest))
    (case_of (after (codes "open") bytes) (λ rest. Some (altered.Open, rest))
    (case_of (after (codes "refused ") bytes) refused_at None))

-- a table, and a column of a kind that is to be added to it
unfoldable pub column_at : List ℕ → Read (TableName × List ℕ × Kind)
column_at bytes = table_at bytes >>= λ table. behind_space name_at table.1 >>= λ column. behind_space kind_at column.1 >>= λ kind. Some ((table.0, column.0, kind.0), kind.1)

---- whole lines

abbrev pub client_at : List ℕ → Read ℕ
client_at bytes = natural_below (2 ^ 32) bytes

abbrev pub is_empty : List ℕ → Bool
is_empty [] = true
is_empty (b ∷ bytes) = false

-- what is read up to the end
abbrev pub whole : {X : Type 0} → Read X → Option X
whole read = read >>= λ x. if is_empty x.1 then Some x.0 else None

unfoldable pub take_of : List ℕ → Option Event
take_of line = client_at line >>= λ client. behind_space given_at client.1 >>= λ given. after (codes " : ") given.1 >>= λ rest. text_of rest >>= λ text.
    Some (event.Take client.0 text given.0)

-- what became of a call: the second half of its line
unfoldable pub came_at : List ℕ → Read (How × Reply × Option Answer)
came_at bytes = behind_space how_at bytes >>= λ how. behind_space reply_at how.1 >>= λ reply. behind_space given_at reply.1 >>= λ given. Some ((how.0, reply.0, given.0), given.1)

-- a number, a store and a request: who asked which store for what, or which request landed there
unfoldable pub asked_at : List ℕ → Read (ℕ × List ℕ × Request)
asked_at bytes = client_at bytes >>= λ client. behind_space name_at client.1 >>= λ store. behind_space request_at store.1 >>= λ request. Some ((client.0, store.0, request.0), request.1)

unfoldable pub call_of : List ℕ → Option Event
call_of line = asked_at line >>= λ asked. whole (came_at asked.1) >>= λ came. Some (event.Call asked.0.0 asked.0.1 asked.0.2 came.0 came.1 came.2)

-- what became of a landing, and the store's reply
unfoldable pub effect_at : List ℕ → Read (How × Reply)
effect_at bytes = behind_space landed_how_at bytes >>= λ how. behind_space reply_at how.1 >>= λ reply. Some ((how.0, reply.0), reply.1)

unfoldable pub land_of : List ℕ → Option Event
land_of line = asked_at line >>= λ asked. whole (effect_at asked.1) >>= λ effect. Some (event.Land asked.0.0 asked.0.1 asked.0.2 effect.0 effect.1)

unfoldable pub alter_of : List ℕ → Option Event
alter_of line = column_at line >>= λ column. whole (behind_space altered_at column.1) >>= λ altered. Some (event.Alter column.0.0 column.0.1 column.0.2 altered)

unfoldable pub event_of : List ℕ → Option Event
event_of line =
    case_of (after (codes "take ") line) take_of
    (case_of (after (codes "call ") line) call_of
    (case_of (after (codes "stop ") line) (λ rest. whole (client_at rest) >>= λ client. Some (event.Stop client))
    (case_of (after (codes "clock ") line) (λ rest. whole (integer_at rest) >>= λ moment. Some (event.Clock moment))
    (case_of (after (codes "idle ") line) (λ rest. whole (client_at rest) >>= λ client. Some (event.Idle client))
    (case_of (after (codes "land ") line) land_of
    (case_of (after (codes "alter ") line) alter_of None))))))

-- the event of the line with this number
unfoldable pub numbered_event_of : ℕ → List ℕ → Option Event
numbered_event_of n line = after (decimal n) line >>= λ rest. after (codes " ") rest >>= event_of
