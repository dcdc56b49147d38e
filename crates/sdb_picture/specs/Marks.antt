-- What is drawn of a report: for each event its marks, each with its row, its lane and its label, and a mark for each point.
use Rattle.std.specs.Prelude.{ℕ, ℤ, ◌+◌, ◌==◌, nat_lt, if◌then◌else◌, List, [], ◌∷◌, ◌++◌, length, take, codes, decimal, Option, Some, None}
use Rattle.std.specs.Fmt.{signed_decimal}
use Rattle.std.specs.List.{flat_map}
use Rattle.sdb_types.specs.TxId.{id_text}
use Rattle.sdb_picture.specs.Types.{Altered, Answer, Condition, Event, How, Kind, Outcome, Point, Record, Reply, Request, TableName}
use Rattle.sdb_types.specs.declared.record.Reply.TheVariants as reply
use Rattle.sdb_types.specs.declared.record.Request.TheVariants as ask
use Rattle.sdb_model.specs.Report.{alter_text_of, how_text_of}
use Rattle.sdb_model.specs.Rows.{Name}
use Rattle.sdb_model.specs.Texts.{answer_text_of, key_text_of, record_text_of, span_text_of}
use Rattle.sdb_model.specs.declared.event.Event.TheVariants as event
use Rattle.sdb_model.specs.declared.event.How.TheVariants.{Seen, Lost, Discarded, Delayed, Broken}
use Rattle.sdb_picture.specs.declared.effect.Effect.{Effect}
use Rattle.sdb_picture.specs.declared.effect.Stage.{Stage}
use Rattle.sdb_picture.specs.declared.effect.Verdict.{Verdict}
use Rattle.sdb_picture.specs.declared.lanes.Lanes.{Lanes}
use Rattle.sdb_picture.specs.Effects.{is_decision, may_change, stage_of, verdict_of}
use Rattle.sdb_picture.specs.Known.{effect_at, rows_after}
use Rattle.sdb_picture.specs.Lanes.{client_lane, lanes_of, record_lane, store_lane}

-- What is drawn. Rows and lanes are numbered from 0.
pub data Mark : Type 0 where
  -- a statement that a client takes
  Statement : (row client : ℕ) → (text : List ℕ) → Mark
  -- a call of a client on a store, what became of it, what it asks and what came of it
  Arrow : (row client store : ℕ) → (how : How) → (asked came : List ℕ) → Mark
  -- an answer that a client is given
  Answered : (row client : ℕ) → (text : List ℕ) → Mark
  -- a record that a put leaves, from its row on, and how many rows after it
  Band : (lane row rows : ℕ) → (stage : Stage) → (effect : Effect) → Mark
  -- a transaction's row that is put
  Decided : (row store : ℕ) → (verdict : Verdict) → (effect : Effect) → Mark
  -- a client that stops or idles
  Rested : (row client : ℕ) → (text : List ℕ) → Mark
  -- a move of the clock, a landing of a request that isn't in flight, or a column that is to be added to a table
  Ticked : (row : ℕ) → (text : List ℕ) → Mark
  -- a late request that lands on a store, what became of it, what it asks and what came of it
  Landed : (row store : ℕ) → (how : How) → (asked came : List ℕ) → Mark
  -- the point of a recorded transaction, below the row of so many events, and its place in the order
  Pointed : (events place : ℕ) → (id : List ℕ) → Mark

---- calls

-- what a reply says, in a word
abbrev pub reply_word : Reply → List ℕ
reply_word (reply.Found None) = codes "none"
reply_word (reply.Found (Some r)) = codes "found"
reply_word (reply.Rows rows) = codes "rows"
reply_word reply.Applied = codes "applied"
reply_word (reply.NotMet found) = codes "not met"
reply_word (reply.NotAll place found) = codes "not met"
reply_word reply.Fault = codes "fault"
reply_word reply.NoMemory = codes "no memory"

-- what came of a call or a landing, in a word: of one that was seen its reply, and else what became of it
abbrev pub came_word : How → Reply → List ℕ
came_word Seen r = reply_word r
came_word Lost r = how_text_of Lost
came_word Discarded r = how_text_of Discarded
came_word Delayed r = how_text_of Delayed
came_word Broken r = how_text_of Broken

abbrev pub decision_marks : Lanes → ℕ → Name → Record → Effect → List Mark
decision_marks lanes row store r effect = Decided row (store_lane lanes store) (verdict_of r) effect ∷ []

abbrev pub band_marks : Lanes → ℕ → Name → Record → Condition → Effect → ℕ → List Mark
band_marks lanes row store r condition effect rows =
    Band (record_lane lanes store r.key) row rows (stage_of r condition) effect ∷ []

-- A put that took effect, or may have: a coordinator's row is a decision, and of each other record a band begins.
abbrev pub put_marks : Lanes → ℕ → Name → Record → Condition → Effect → ℕ → List Mark
put_marks lanes row store r condition effect rows =
    if may_change effect then
    (if is_decision r then decision_marks lanes row store r effect else band_marks lanes row store r condition effect rows)
    else []

abbrev pub written_marks : Lanes → List Event → ℕ → Name → Request → Record → Condition → Effect → List Event → List Mark
written_marks lanes past row store request r condition effect rest =
    put_marks lanes row store r condition effect (rows_after past store r.key request effect rest)

-- Whether a put took effect is known by the events before it.
abbrev pub effect_marks : Lanes → List Event → ℕ → Name → Request → How → Reply → List Event → List Mark
effect_marks lanes past row store (ask.Get key) how reply rest = []
effect_marks lanes past row store (ask.Scan span) how reply rest = []
effect_marks lanes past row store (ask.PutIf r condition) how reply rest =
    written_marks lanes past row store (ask.PutIf r condition) r condition (effect_at past store r.key (ask.PutIf r condition) how reply) rest
effect_marks lanes past row store (ask.DeleteIf key condition) how reply rest = []
effect_marks lanes past row store (ask.PutAll b) how reply rest =
    flat_map (λ p. written_marks lanes past row store (ask.PutAll b) p.rec p.condition (effect_at past store p.rec.key (ask.PutAll b) how reply) rest) b

---- events

abbrev pub answer_marks : ℕ → ℕ → Option Answer → List Mark
answer_marks row client None = []
answer_marks row client (Some a) = Answered row client (answer_text_of a) ∷ []

abbrev pub take_marks : ℕ → ℕ → List ℕ → Option Answer → List Mark
take_marks row client text given = Statement row client text ∷ answer_marks row client given

-- what a call asks for: what it reads, puts or deletes
abbrev pub asked_text : Request → List ℕ
asked_text (ask.Get key) = codes "get " ++ key_text_of key
asked_text (ask.Scan span) = codes "scan " ++ span_text_of span
asked_text (ask.PutIf r condition) = codes "put " ++ record_text_of r
asked_text (ask.DeleteIf key condition) = codes "delete " ++ key_text_of key
asked_text (ask.PutAll b) = codes "put " ++ decimal (length b) ++ codes " records"

-- A call is one arrow, from its client to its store.
abbrev pub call_marks : Lanes → ℕ → ℕ → Name → Request → How → Reply → List Mark
call_marks lanes row client store request how reply =
    Arrow row client (store_lane lanes store) how (asked_text request) (came_word how reply) ∷ []

abbrev pub clock_text : ℤ → List ℕ
clock_text moment = codes "clock " ++ signed_decimal moment

abbrev pub clock_marks : ℕ → ℤ → List Mark
clock_marks row moment = Ticked row (clock_text moment) ∷ []

abbrev pub alter_marks : ℕ → TableName → Name → Kind → Altered → List Mark
alter_marks row table column kind altered = Ticked row (alter_text_of table column kind altered) ∷ []

-- an idle step of a client, or of none, where a request was to land that isn't in flight
abbrev pub idle_text : ℕ → List ℕ
idle_text client = if client == 0 then codes "nothing lands" else codes "idles"

abbrev pub idle_marks : Lanes → ℕ → ℕ → List Mark
idle_marks lanes row client =
    if client == 0 then Ticked row (idle_text client) ∷ [] else Rested row (client_lane lanes client) (idle_text client) ∷ []

-- what a late request asks for, after its number
abbrev pub landed_text : ℕ → Request → List ℕ
landed_text number request = codes "land " ++ decimal number ++ codes " " ++ asked_text request

-- A landing is one arrow, from no client, to its store.
abbrev pub landing_marks : Lanes → ℕ → ℕ → Name → Request → How → Reply → List Mark
landing_marks lanes row number store request how reply =
    Landed row (store_lane lanes store) how (landed_text number request) (came_word how reply) ∷ []

-- The marks of an event, in its row. The events before it say whether a put took effect, and those after it how long a band lasts.
abbrev pub marks_of : Lanes → List Event → ℕ → Event → List Event → List Mark
marks_of lanes past row (event.Take client text given) rest = take_marks row (client_lane lanes client) text given
marks_of lanes past row (event.Call client store request how reply given) rest =
    call_marks lanes row (client_lane lanes client) store request how reply
    ++ effect_marks lanes past row store request how reply rest
    ++ answer_marks row (client_lane lanes client) given
marks_of lanes past row (event.Stop client) rest = Rested row (client_lane lanes client) (codes "stops") ∷ []
marks_of lanes past row (event.Clock moment) rest = clock_marks row moment
marks_of lanes past row (event.Idle client) rest = idle_marks lanes row client
marks_of lanes past row (event.Land number store request how reply) rest =
    landing_marks lanes row number store request how reply ++ effect_marks lanes past row store request how reply rest
marks_of lanes past row (event.Alter table column kind altered) rest = alter_marks row table column kind altered

-- What is drawn of one event, under a title with its texts in full.
pub record Group : Type 0 where
  pub row : ℕ
  pub title : List ℕ
  pub marks : List Mark

-- the label of an event: the statement that is accepted, what a call or a landing asks for, or the column that is to be added
abbrev pub event_text : Event → List ℕ
event_text (event.Take client text given) = text
event_text (event.Call client store request how reply given) = asked_text request
event_text (event.Stop client) = codes "stops"
event_text (event.Clock moment) = clock_text moment
event_text (event.Idle client) = idle_text client
event_text (event.Land number store request how reply) = landed_text number request
event_text (event.Alter table column kind altered) = alter_text_of table column kind altered

abbrev pub given_text : Option Answer → List ℕ
given_text None = []
given_text (Some a) = codes ": " ++ answer_text_of a

-- and the answer that it gives
abbrev pub answered_text : Event → List ℕ
answered_text (event.Take client text given) = given_text given
answered_text (event.Call client store request how reply given) = given_text given
answered_text (event.Stop client) = []
answered_text (event.Clock moment) = []
answered_text (event.Idle client) = []
answered_text (event.Land number store request how reply) = []
answered_text (event.Alter table column kind altered) = []

-- the title of the event in a row, with its number
abbrev pub title_of : ℕ → Event → List ℕ
title_of row e = decimal (row + 1) ++ codes " " ++ event_text e ++ answered_text e

abbrev pub group_of : Lanes → List Event → ℕ → Event → List Event → Group
group_of lanes past row e rest = record { row = row; title = title_of row e; marks = marks_of lanes past row e rest }

-- the groups of all events, from a row on
abbrev pub groups_of : Lanes → List Event → ℕ → List Event → List Group
groups_of lanes events row [] = []
groups_of lanes events row (e ∷ es) = group_of lanes (take row events) row e es ∷ groups_of lanes events (row + 1) es

---- points

-- a point that lies among so many events
abbrev pub point_marks : ℕ → ℕ → Point → List Mark
point_marks events place p = if nat_lt events p.event then [] else Pointed p.event place (id_text p.id.0) ∷ []

-- the points, numbered from a place on
abbrev pub points_of : ℕ → ℕ → List Point → List Mark
points_of events place [] = []
points_of events place (p ∷ ps) = point_marks events place p ++ points_of events (place + 1) ps

---- pictures

pub record Picture : Type 0 where
  pub lanes : Lanes
  pub rows : ℕ
  pub groups : List Group
  pub points : List Mark

-- What is drawn of an outcome.
abbrev pub picture_of : Outcome → Picture
picture_of o = record {
  lanes = lanes_of o.events;
  rows = length o.events;
  groups = groups_of (lanes_of o.events) o.events 0 o.events;
  points = points_of (length o.events) 1 o.order;
}
