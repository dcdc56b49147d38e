-- Transactions: where one begins and ends among the events, what its body is, which are recorded, and their order.
use Rattle.std.specs.Prelude.{◌≡◌, ℕ, zero, suc, ◌+◌, ◌*◌, ◌/◌, ◌%◌, ◌^◌, ◌<◌, Bool, true, false, not, ◌&&◌, ◌||◌, ◌==◌, if◌then◌else◌, List, [], ◌∷◌, ◌++◌, map, filter, fold, find, Option, Some, None, IsSome, IsSomeAnd, unwrap_or, take_while, All, Contains, ◌↔◌, ◌≢◌}
use Rattle.std.specs.Option.{option_map, option_map_or, option_and_then}
use Rattle.std.specs.List.{enumerate_from}
use Rattle.std.specs.List.Sorted.{IsStrictlyIncreasing}
use Rattle.sdb_model.specs.Types.{Place, Record, Request, TxId}
use Rattle.sdb_types.specs.declared.record.State.TheVariants.{Prepared, Deleted}
use Rattle.sdb_types.specs.declared.record.Reply.TheVariants as reply
use Rattle.sdb_types.specs.Contents.{is_version}
use Rattle.sdb_model.specs.declared.answer.Answer.{Answer}
use Rattle.sdb_model.specs.declared.answer.Answer.TheVariants as answer
use Rattle.sdb_model.specs.declared.event.Event.{Event}
use Rattle.sdb_model.specs.declared.event.Event.TheVariants as event
use Rattle.sdb_model.specs.declared.event.How.TheVariants.{Seen}
use Rattle.sdb_model.specs.declared.event.Point.{Point}
use Rattle.sdb_model.specs.Events.{StoreContents}
use Rattle.sdb_model.specs.Images.{decision_at}
use Rattle.sdb_model.specs.Requests.{any_of, records_put}
use Rattle.sdb_model.specs.Sql.{reads_begin, reads_commit, reads_rollback}
use Rattle.sdb_record.specs.declared.coordinator.Decision.TheVariants as decision

-- events with their numbers, from 1
abbrev pub numbered : List Event → List (ℕ × Event)
numbered events = enumerate_from 1 events

---- the statements of a client

-- A statement that a client took: the number of its Take, its text, its answer, if it has one, and the number of the event
-- that it has reached: of its answer, or of its Take where it has none.
pub record Executed : Type 0 where
  pub accepted : ℕ
  pub text : List ℕ
  pub answer : Option Answer
  pub reached : ℕ

-- the number of the event that answered a statement: none without an answer
abbrev pub answered : Executed → Option ℕ
answered s = option_map (λ a. s.reached) s.answer

-- the last statement, answered by an event
abbrev pub with_answer : List Executed → ℕ → Answer → List Executed
with_answer [] n a = []
with_answer (s ∷ []) n a = record { accepted = s.accepted; text = s.text; answer = Some a; reached = n } ∷ []
with_answer (s ∷ t ∷ ss) n a = s ∷ with_answer (t ∷ ss) n a

abbrev pub statements_after : ℕ → List Executed → ℕ × Event → List Executed
statements_after client ss (n, event.Take c text answer) = if c == client then ss ++ record { accepted = n; text = text; answer = answer; reached = n } ∷ [] else ss
statements_after client ss (n, event.Call c store q how r (Some a)) = if c == client then with_answer ss n a else ss
statements_after client ss _ = ss

-- A client's statements, in order. The answer to a statement is in its Take, or in the first later event of that
-- client that has an answer.
abbrev pub statements_by : ℕ → List Event → List Executed
statements_by client events = fold (statements_after client) [] (numbered events)

---- one transaction

-- A transaction's id gives its client, by the number, and which of the client's transactions it is, both from 1.
abbrev pub client_of : TxId → ℕ
client_of id = id.0 / 2 ^ 64

abbrev pub ordinal_of : TxId → ℕ
ordinal_of id = id.0 % 2 ^ 64

abbrev pub id_of : ℕ → ℕ → TxId
id_of client ordinal = record { 0 = client * 2 ^ 64 + ordinal }

abbrev pub is_done : Option Answer → Bool
is_done (Some answer.Done) = true
is_done _ = false

abbrev pub is_conflict : Option Answer → Bool
is_conflict (Some (answer.Conflict key found)) = true
is_conflict _ = false

-- A transaction begins with a statement that reads as BEGIN and is answered Done.
abbrev pub begins : Executed → Bool
begins s = reads_begin s.text && is_done s.answer

-- A transaction that is open ends with the first statement that reads as COMMIT, or is answered Conflict, or reads as
-- ROLLBACK and is answered Done.
abbrev pub ends : Executed → Bool
ends s = reads_commit s.text || is_conflict s.answer || (reads_rollback s.text && is_done s.answer)

-- the BEGIN of the k-th transaction, k from 1, and the statements after it
abbrev pub from_begin : ℕ → List Executed → List Executed
from_begin zero ss = []
from_begin (suc k) [] = []
from_begin (suc k) (s ∷ ss) = if begins s then (if k == 0 then s ∷ ss else from_begin k ss) else from_begin (suc k) ss

abbrev pub first_of : {X : Type 0} → List X → Option X
first_of [] = None
first_of (x ∷ xs) = Some x

abbrev pub rest_of : {X : Type 0} → List X → List X
rest_of [] = []
rest_of (x ∷ xs) = xs

---- among a client's statements from a transaction's BEGIN on

-- the statement that ended it, if one did
abbrev pub ending_in : List Executed → Option Executed
ending_in ss = find ends (rest_of ss)

-- its COMMIT: the statement that ended it, where that reads as COMMIT
abbrev pub commit_in : List Executed → Option Executed
commit_in ss = option_and_then (λ s. if reads_commit s.text then Some s else None) (ending_in ss)

-- statements up to the first that ends the transaction, that one included
abbrev pub through_end : List Executed → List Executed
through_end [] = []
through_end (s ∷ ss) = if ends s then s ∷ [] else s ∷ through_end ss

-- its statements after the BEGIN, with the one that ended it
abbrev pub statements_in : List Executed → List Executed
statements_in ss = through_end (rest_of ss)

---- by its id

-- a transaction's BEGIN and its client's statements since
abbrev pub statements_since : List Event → TxId → List Executed
statements_since events id = from_begin (ordinal_of id) (statements_by (client_of id) events)

-- the number of the event at which a transaction began
abbrev pub begun : List Event → TxId → Option ℕ
begun events id = option_map (λ s. s.accepted) (first_of (statements_since events id))

-- the statement that ended a transaction, if one did
abbrev pub ending : List Event → TxId → Option Executed
ending events id = ending_in (statements_since events id)

-- A transaction's COMMIT: the statement that ended it, where that reads as COMMIT.
abbrev pub commit_of : List Event → TxId → Option Executed
commit_of events id = commit_in (statements_since events id)

-- all statements of a transaction after its BEGIN, with the one that ended it
abbrev pub statements_of : List Event → TxId → List Executed
statements_of events id = statements_in (statements_since events id)

-- Some answers say that a statement changed nothing of its transaction, and left it open.
abbrev pub changes_nothing : Answer → Bool
changes_nothing (answer.Busy key id at) = true
changes_nothing answer.Faulted = true
changes_nothing (answer.BadRecord key) = true
changes_nothing (answer.Refused refusal) = true
changes_nothing answer.OpenTransactions = true
changes_nothing answer.NoMemory = true
changes_nothing _ = false

-- Some answers are computed from the rows that a statement read.
abbrev pub is_answered_from_rows : Answer → Bool
is_answered_from_rows (answer.Rows rows) = true
is_answered_from_rows (answer.Count n) = true
is_answered_from_rows (answer.Duplicate key) = true
is_answered_from_rows _ = false

abbrev pub is_committed_answer : Option Answer → Bool
is_committed_answer (Some answer.Committed) = true
is_committed_answer a = false

abbrev pub is_effective : Executed → Bool
is_effective s = not (option_map_or changes_nothing s.answer false)

-- A transaction's statements between its BEGIN and its end, among its client's statements from the BEGIN on.
abbrev pub inside_in : List Executed → List Executed
inside_in ss = take_while (λ s. not (ends s)) (rest_of ss)

-- its body: these, but for those that changed nothing
abbrev pub body_in : List Executed → List Executed
body_in ss = filter is_effective (inside_in ss)

abbrev pub statements_inside : List Event → TxId → List Executed
statements_inside events id = inside_in (statements_since events id)

abbrev pub body : List Event → TxId → List Executed
body events id = body_in (statements_since events id)

---- its place in the order

-- a record of a transaction in state PREPARED or DELETED
abbrev pub is_prepared_record : TxId → Record → Bool
is_prepared_record id r = is_version id Prepared r || is_version id Deleted r

-- A prepare of a transaction: it puts such a record.
abbrev pub prepares : TxId → Request → Bool
prepares id q = any_of (is_prepared_record id) (records_put q)

-- a prepare call that was seen and applied
abbrev pub is_prepared_by : TxId → Event → Bool
is_prepared_by id (event.Call c store q Seen reply.Applied answer) = prepares id q
is_prepared_by id _ = false

abbrev pub last_prepare : List Event → TxId → Option ℕ
last_prepare events id = fold (λ (found : Option ℕ) (e : ℕ × Event). if is_prepared_by id e.1 then Some e.0 else found) None (numbered events)

-- A transaction's point: the number of its last prepare call that was seen and applied; where there is none, of the event
-- that took its COMMIT; and 0 without one.
abbrev pub point : List Event → TxId → ℕ
point events id = unwrap_or (last_prepare events id) (option_map_or (λ s. s.accepted) (commit_of events id) 0)

-- a transaction with its point
abbrev pub point_at : List Event → TxId → Point
point_at events id = record { id = id; event = point events id }

-- Of the ids of a list, two that have one point, other than 0, are one.
abbrev pub ArePointsApart : List Event → List TxId → Type 0
ArePointsApart events ids = (id other : TxId) → Contains ids id → Contains ids other → point events id ≡ point events other → point events id ≢ 0 → id ≡ other

---- which transactions are recorded, and their order

-- A transaction is recorded where the coordinator's table holds its row, well formed, with the decision that it is
-- committed.
abbrev pub Recorded : List Place → List StoreContents → TxId → Type 0
Recorded places store_contents id = IsSomeAnd (decision_at places store_contents id) (λ d. d.decision ≡ decision.Committed)

-- The order: the recorded transactions, each once, by rising point, each with its point. Each is one that a client began,
-- and whose COMMIT was accepted.
pub record IsOrder (places : List Place) (events : List Event) (closing : List StoreContents) (order : List Point) : Type 0 where
  pub recorded : (id : TxId) → id.0 < 2 ^ 128 → Contains (map (λ p. p.id) order) id ↔ Recorded places closing id
  pub points : All (λ p. p.event ≡ point events p.id) order
  pub rising : IsStrictlyIncreasing (map (λ p. p.event) order)
  pub accepted : All (λ p. IsSome (commit_of events p.id)) order
