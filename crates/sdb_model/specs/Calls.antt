-- What a client did for one statement: the calls that it made, what they asked, and what their replies showed.
use Rattle.std.specs.Prelude.{ℕ, ℤ, pos, Bool, true, false, ◌&&◌, ◌==◌, nat_le, nat_lt, if◌then◌else◌, List, [], ◌∷◌, filter, fold, length, take, Option, Some, None, is_some}
use Rattle.std.specs.Option.{option_and_then, option_map, option_map_or}
use Rattle.std.specs.List.{filter_map, list_all}
use Rattle.std.specs.Result.{result_ok}
use Rattle.std.specs.Ordering.{is_eq}
use Rattle.sdb_model.specs.Types.{Decided, Key, Record, Reply, Request, TxId}
use Rattle.sdb_types.specs.declared.record.Condition.TheVariants as condition
use Rattle.sdb_types.specs.declared.record.State.TheVariants as state
use Rattle.sdb_types.specs.declared.record.Request.TheVariants as ask
use Rattle.sdb_types.specs.declared.record.Reply.TheVariants as reply
use Rattle.sdb_types.specs.Order.{key_cmp}
use Rattle.sdb_types.specs.Replies.{is_applied}
use Rattle.sdb_record.specs.Coordinator.{coordinator_key_of, decision_in}
use Rattle.sdb_model.specs.declared.event.Event.{Event}
use Rattle.sdb_model.specs.declared.event.Event.TheVariants as event
use Rattle.sdb_model.specs.declared.event.How.{How}
use Rattle.sdb_model.specs.Requests.{keys_asked, only_of, records_put, observed_in}
use Rattle.sdb_model.specs.Rows.{Name}
use Rattle.sdb_model.specs.Transactions.{Executed, numbered}
use Rattle.sdb_record.specs.Parts.{are_stored}

---- calls

-- A call that a client made, with the number of its event.
pub record StoreCall : Type 0 where
  pub at : ℕ
  pub store : Name
  pub request : Request
  pub how : How
  pub reply : Reply

abbrev pub made_by : ℕ → ℕ × Event → Option StoreCall
made_by client (n, event.Call c store q how r answer) = if c == client then Some (record { at = n; store = store; request = q; how = how; reply = r }) else None
made_by client (n, e) = None

-- the calls of a client, in order
abbrev pub calls_by : List Event → ℕ → List StoreCall
calls_by events client = filter_map (made_by client) (numbered events)

-- the number of the event that answered a statement, or of the last event where none did
abbrev pub end_of : List Event → Executed → ℕ
end_of events s = if is_some s.answer then s.reached else length events

-- A statement's calls: its client's after its Take, up to its answer, or to the end where it has none.
abbrev pub calls_of : List Event → ℕ → Executed → List StoreCall
calls_of events client s = filter (λ m. nat_lt s.accepted m.at && nat_le m.at (end_of events s)) (calls_by events client)

-- the calls after one of them, or before it
abbrev pub calls_after : ℕ → List StoreCall → List StoreCall
calls_after n calls = filter (λ m. nat_lt n m.at) calls

abbrev pub calls_before : ℕ → List StoreCall → List StoreCall
calls_before n calls = filter (λ m. nat_lt m.at n) calls

---- the clock

abbrev pub clock_after : ℤ → Event → ℤ
clock_after now (event.Clock moment) = moment
clock_after now e = now

-- what the clock shows after the first n events: what it was last moved to, or 0
abbrev pub clock_at : List Event → ℕ → ℤ
clock_at events n = fold clock_after (pos 0) (take n events)

---- what a call asks

-- the one key that a call names
abbrev pub key_asked : Request → Option Key
key_asked q = only_of (keys_asked q)

abbrev pub is_read : Request → Bool
is_read (ask.Get key) = true
is_read (ask.Scan span) = true
is_read (ask.PutIf rec condition) = false
is_read (ask.DeleteIf key condition) = false
is_read (ask.PutAll b) = false

-- a delete of a committed record
abbrev pub is_removal : Request → Bool
is_removal (ask.DeleteIf key (condition.Version id state.Committed)) = true
is_removal q = false

-- a call that asks for the coordinator's row of a transaction, or puts it
abbrev pub is_of_row : TxId → Request → Bool
is_of_row id q = option_map_or (λ k. is_eq (key_cmp k (coordinator_key_of id))) (key_asked q) false

-- the one record that a call puts
abbrev pub put_by : Request → Option Record
put_by q = only_of (records_put q)

---- what a reply shows

-- the records that a read was answered
abbrev pub records_read : Reply → List Record
records_read (reply.Found (Some r)) = r ∷ []
records_read (reply.Found None) = []
records_read (reply.Rows rows) = rows
records_read r = []

-- all records that a reply shows
abbrev pub records_observed : Reply → List Record
records_observed (reply.NotMet (Some r)) = r ∷ []
records_observed (reply.NotAll k (Some r)) = r ∷ []
records_observed r = records_read r

-- what a reply says is at the one key that its request names
abbrev pub record_at_key : Request → Reply → Option (Option Record)
record_at_key q r = option_map (λ s. s.1) (only_of (observed_in q r))

-- the row that a reply says is at that key, or that was put there
abbrev pub row_observed : Request → Reply → Option Record
row_observed q r = if is_applied r then put_by q else option_and_then (λ found. found) (record_at_key q r)

-- the decision that a call on a transaction's row showed: that of the row found, or of the row that was put
abbrev pub decision_in_reply : Request → Reply → Option Decided
decision_in_reply q r = option_and_then (λ row. result_ok (decision_in row)) (row_observed q r)

abbrev pub decision_observed : TxId → StoreCall → Option Decided
decision_observed id m = if is_of_row id m.request then decision_in_reply m.request m.reply else None

-- the decision in the row that a call found, and did not put
abbrev pub decision_found : TxId → StoreCall → Option Decided
decision_found id m = if is_of_row id m.request then option_and_then (λ found. option_and_then (λ row. result_ok (decision_in row)) found) (record_at_key m.request m.reply) else None

-- the decision on a transaction that calls showed first
abbrev pub decision_learned : List StoreCall → TxId → Option Decided
decision_learned [] id = None
decision_learned (m ∷ ms) id = if is_some (decision_observed id m) then decision_observed id m else decision_learned ms id

-- each record that a reply shows has its columns as a record holds them: in order, each with a name
abbrev pub is_stored_reply : Reply → Bool
is_stored_reply r = list_all (λ x. are_stored x.columns) (records_observed r)
