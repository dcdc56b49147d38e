-- Which events follow a script: those of its moves, in order.
use Rattle.std.specs.Prelude.{◌≡◌, ◌⊎◌, ℕ, zero, suc, ◌+◌, ◌≤◌, ◌<◌, Bool, true, false, not, ◌&&◌, ◌||◌, ◌==◌, nat_lt, if◌then◌else◌, MatchBool, List, [], ◌∷◌, ◌++◌, length, Option, Some, None, is_none, is_some, fold, slice_get}
use Rattle.std.specs.Option.{option_map_or}
use Rattle.std.specs.List.{list_any, count_by, filter_map}
use Rattle.sdb_model.specs.Types.{Column, Kind, Request, Table, TableName}
use Rattle.sdb_types.specs.declared.record.Reply.{Reply}
use Rattle.sdb_types.specs.declared.record.Reply.TheVariants as reply
use Rattle.sdb_model.specs.declared.event.Altered.{Altered}
use Rattle.sdb_model.specs.declared.event.Altered.TheVariants as altered
use Rattle.sdb_model.specs.declared.event.Event.{Event}
use Rattle.sdb_model.specs.declared.event.Event.TheVariants as event
use Rattle.sdb_model.specs.declared.event.How.{How}
use Rattle.sdb_model.specs.declared.event.How.TheVariants.{Seen, Lost, Discarded, Delayed, Broken}
use Rattle.sdb_model.specs.declared.script.Act.{Act}
use Rattle.sdb_model.specs.declared.script.Act.TheVariants as act
use Rattle.sdb_model.specs.declared.script.Move.{Move}
use Rattle.sdb_model.specs.declared.script.Move.TheVariants as move
use Rattle.sdb_model.specs.declared.script.Script.{Script}
use Rattle.sdb_model.specs.declared.script.ScriptClient.{ScriptClient}
use Rattle.sdb_types.specs.Replies.{is_fault}
use Rattle.sdb_schema.specs.Added.{column_refused}
use Rattle.sdb_model.specs.Catalogs.{catalog_after}
use Rattle.sdb_model.specs.Rows.{Name}
use Rattle.sdb_model.specs.Sql.{reads_vacuum}
use Rattle.sdb_model.specs.Transactions.{Executed, begins, ends, statements_by}

---- where a client is after the events so far

abbrev pub is_take_of : ℕ → Event → Bool
is_take_of client (event.Take c text answer) = c == client
is_take_of client _ = false

abbrev pub stops : ℕ → Event → Bool
stops client (event.Stop c) = c == client
stops client _ = false

-- how many statements a client has accepted
abbrev pub takes_of : ℕ → List Event → ℕ
takes_of client past = count_by (is_take_of client) past

-- whether a client has stopped
abbrev pub has_stopped : ℕ → List Event → Bool
has_stopped client past = list_any (stops client) past

-- whether a client has a call pending after one more event
abbrev pub pends_after : ℕ → Bool → Event → Bool
pends_after client was (event.Take c text answer) = if c == client then is_none answer else was
pends_after client was (event.Call c store q how r answer) = if c == client then is_none answer else was
pends_after client was _ = was

-- A client has a call pending exactly where its last Take or Call has no answer.
abbrev pub is_pending : ℕ → List Event → Bool
is_pending client past = fold (pends_after client) false past

-- the texts of a client's statements, in the script's order
abbrev pub texts_of : List ScriptClient → ℕ → List (List ℕ)
texts_of clients zero = []
texts_of clients (suc i) = option_map_or (λ c. c.statements) (slice_get clients i) []

abbrev pub has_work : List ScriptClient → ℕ → List Event → Bool
has_work clients client past = not (has_stopped client past) && (is_pending client past || nat_lt (takes_of client past) (length (texts_of clients client)))

---- transactions and VACUUMs

-- A transaction is open from its BEGIN to the answer of the statement that ends it.
abbrev pub is_open_after : Bool → Executed → Bool
is_open_after was s = if begins s then true else if ends s && is_some s.answer then false else was

-- a client has a transaction open
abbrev pub is_open : List Event → ℕ → Bool
is_open events client = fold is_open_after false (statements_by client events)

-- a client's VACUUM has no answer yet
abbrev pub runs_vacuum : List Event → ℕ → Bool
runs_vacuum events client = fold (λ was s. reads_vacuum s.text && is_none s.answer) false (statements_by client events)

-- it holds of some client that isn't stopped
abbrev pub SomeClient : (List Event → ℕ → Bool) → List Event → Type 0
SomeClient is events = (client : ℕ) × (has_stopped client events ≡ false) × (is events client ≡ true)

---- one step

-- Which hows a call of an act may have, and with which replies. A step's reply is seen, unless it is a fault: then the store
-- itself failed. A lost reply is lost, and its client has a fault, unless the store itself fails or is out of memory. A discarded
-- call is never made, and a delayed one not yet: their client has a fault.
abbrev pub IsHowOfStep : How → Reply → Type 0
IsHowOfStep Seen r = is_fault r ≡ false
IsHowOfStep Broken r = r ≡ reply.Fault
IsHowOfStep Lost r = ⊥
IsHowOfStep Discarded r = ⊥
IsHowOfStep Delayed r = ⊥

abbrev pub IsHowOfLose : How → Reply → Type 0
IsHowOfLose Lost r = r ≡ reply.Fault
IsHowOfLose Broken r = r ≡ reply.Fault
IsHowOfLose Seen r = r ≡ reply.NoMemory
IsHowOfLose Discarded r = ⊥
IsHowOfLose Delayed r = ⊥

abbrev pub IsHowOfDiscard : How → Reply → Type 0
IsHowOfDiscard how r = (how ≡ Discarded) × (r ≡ reply.Fault)

abbrev pub IsHowOfDelay : How → Reply → Type 0
IsHowOfDelay how r = (how ≡ Delayed) × (r ≡ reply.Fault)

-- The event is one call of the client, with a how that is allowed.
abbrev pub IsCallOf : ℕ → (How → Reply → Type 0) → Event → Type 0
IsCallOf client allowed (event.Call c store q how r answer) = (c ≡ client) × allowed how r
IsCallOf client allowed _ = ⊥

-- The event is the taking of the client's next statement.
abbrev pub IsTakeOf : List ScriptClient → ℕ → List Event → Event → Type 0
IsTakeOf clients client past (event.Take c text answer) = (c ≡ client) × (slice_get (texts_of clients client) (takes_of client past) ≡ Some text)
IsTakeOf clients client past _ = ⊥

-- A step of a client: Idle where it is stopped or has no work, one call where a call is pending, and otherwise the taking
-- of its next statement.
abbrev pub IsStep : List ScriptClient → ℕ → (How → Reply → Type 0) → List Event → Event → Type 0
IsStep clients client allowed past e =
    MatchBool (has_work clients client past)
    (MatchBool (is_pending client past) (IsCallOf client allowed e) (IsTakeOf clients client past e))
    (e ≡ event.Idle client)

---- requests in flight

-- the request of a call that was delayed
abbrev pub delayed_by : Event → Option Request
delayed_by (event.Call client store q Delayed r answer) = Some q
delayed_by _ = None

abbrev pub lands : ℕ → Event → Bool
lands number (event.Land n store q how r) = n == number
lands number _ = false

-- the request of the k-th call that was delayed, k from 1
abbrev pub delayed_at : ℕ → List Event → Option Request
delayed_at zero past = None
delayed_at (suc k) past = slice_get (filter_map delayed_by past) k

-- Request k is in flight from the k-th call that was delayed until a landing of k.
abbrev pub in_flight : ℕ → List Event → Option Request
in_flight k past = if list_any (lands k) past then None else delayed_at k past

-- The event lands request k. Where none is in flight it is idle.
abbrev pub IsLanding : ℕ → Option Request → Event → Type 0
IsLanding k None e = e ≡ event.Idle 0
IsLanding k (Some q) (event.Land n store request how r) = (n ≡ k) × (request ≡ q) × IsHowOfStep how r
IsLanding k (Some q) _ = ⊥

---- columns that are added

-- a client that isn't stopped has a transaction open or runs VACUUM
abbrev pub IsActive : List Event → Type 0
IsActive past = SomeClient is_open past ⊎ SomeClient runs_vacuum past

-- What becomes of a column that is to be added to a table of a catalog: nothing while a client is active; else the catalog refuses it, or it
-- is added.
abbrev pub IsAltered : List Table → List Event → TableName → Column → Altered → Type 0
IsAltered catalog past table c altered.Open = IsActive past
IsAltered catalog past table c (altered.Refused k) = (IsActive past → ⊥) × (column_refused catalog table c ≡ Some k)
IsAltered catalog past table c altered.Done = (IsActive past → ⊥) × (column_refused catalog table c ≡ None)

-- The event is that a column is to be added to a table, under the catalog as it is after the events so far.
abbrev pub IsAlteration : List Table → List Event → TableName → Name → Kind → Event → Type 0
IsAlteration catalog past table column kind e =
    (a : Altered) × (e ≡ event.Alter table column kind a) × IsAltered (catalog_after catalog past) past table (record { name = column; kind = kind }) a

---- acts

-- The event is what an act gives after the events so far.
abbrev pub IsActed : Script → Act → List Event → Event → Type 0
IsActed script (act.Step client) past e = IsStep script.clients client IsHowOfStep past e
IsActed script (act.Lose client) past e = IsStep script.clients client IsHowOfLose past e
IsActed script (act.Discard client) past e = IsStep script.clients client IsHowOfDiscard past e
IsActed script (act.Delay client) past e = IsStep script.clients client IsHowOfDelay past e
IsActed script (act.Land k) past e = IsLanding k (in_flight k past) e
IsActed script (act.Stop client) past e = e ≡ event.Stop client
IsActed script (act.Clock moment) past e = e ≡ event.Clock moment
IsActed script (act.Alter table column kind) past e = IsAlteration script.catalog past table column kind e

---- moves

-- All events are steps of one client.
abbrev pub AreStepsOf : List ScriptClient → ℕ → List Event → List Event → Type 0
AreStepsOf clients client past [] = Unit {0}
AreStepsOf clients client past (e ∷ es) = IsStep clients client IsHowOfStep past e × AreStepsOf clients client (past ++ e ∷ []) es

-- A client is among those from one number up to another, that one left out.
abbrev pub IsAmong : ℕ → ℕ → ℕ → Type 0
IsAmong low high client = (low ≤ client) × (client < high)

-- None of the clients from one number up to another has work.
abbrev pub AllIdle : List ScriptClient → List Event → ℕ → ℕ → Type 0
AllIdle clients past low high = (c : ℕ) → IsAmong low high c → has_work clients c past ≡ false

-- The clients are numbered from 1.
abbrev pub end_of : List ScriptClient → ℕ
end_of clients = length clients + 1

-- It is a client's turn, where the clients before `from` had theirs in this round: it is the next that has work, in this
-- round, or else in the round after it.
abbrev pub IsTurn : List ScriptClient → List Event → ℕ → ℕ → Type 0
IsTurn clients past from client =
    (has_work clients client past ≡ true)
    × (IsAmong from (end_of clients) client × AllIdle clients past from client
    ⊎ IsAmong 1 from client × AllIdle clients past from (end_of clients) × AllIdle clients past 1 client)

-- The rest: each client that has work and isn't stopped takes one step in turn, by number, round after round, until none
-- has work. The clients before `from` had their turn in this round.
abbrev pub IsRest : List ScriptClient → ℕ → List Event → List Event → Type 0
IsRest clients from past [] = AllIdle clients past 1 (end_of clients)
IsRest clients from past (e ∷ es) =
    (client : ℕ) × IsTurn clients past from client × IsStep clients client IsHowOfStep past e × IsRest clients (client + 1) (past ++ e ∷ []) es

-- The events are those of one move.
abbrev pub IsOfMove : Script → Move → List Event → List Event → Type 0
IsOfMove script (move.Act a) past es = (e : Event) × (es ≡ e ∷ []) × IsActed script a past e
IsOfMove script (move.Repeat client times) past es = (length es ≡ times) × AreStepsOf script.clients client past es
IsOfMove script move.Rest past es = IsRest script.clients 1 past es

abbrev pub AreOfMoves : Script → List Move → List Event → List Event → Type 0
AreOfMoves script [] past es = es ≡ []
AreOfMoves script (m ∷ ms) past es =
    (front : List Event) × (back : List Event) × (es ≡ front ++ back) × IsOfMove script m past front × AreOfMoves script ms (past ++ front) back

-- The events are, in order, those of a script's moves.
abbrev pub Follows : Script → List Event → Type 0
Follows script events = AreOfMoves script script.moves [] events
