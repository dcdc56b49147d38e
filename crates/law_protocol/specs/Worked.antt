-- Events of three small runs, written as values, newest first: a decision whose reply is lost, a decided transaction that a
-- reader rolls forward, and a tombstone that VACUUM removes.
use Rattle.std.specs.Prelude.{ℕ, ℤ, pos, ◌+◌, ◌*◌, ◌^◌, ◌==◌, if◌then◌else◌, List, [], ◌∷◌, codes, Option, Some, None}
use Rattle.std.specs.Option.{option_map}
use Rattle.law_protocol.specs.Types.{Answer, Event, Key, Pair, Read, Record, Reply, Request, Write}
use Rattle.sdb_types.specs.declared.value.Value.TheVariants as value
use Rattle.sdb_types.specs.declared.record.State.TheVariants as state
use Rattle.sdb_types.specs.declared.record.Condition.TheVariants as condition
use Rattle.sdb_types.specs.declared.record.Request.TheVariants as ask
use Rattle.sdb_types.specs.declared.record.Reply.TheVariants as reply
use Rattle.sdb_record.specs.declared.coordinator.Decision.TheVariants.{Committed}
use Rattle.sdb_record.specs.declared.write.Change.TheVariants as change
use Rattle.sdb_record.specs.Coordinator.{coordinator_key_of, coordinator_row_of}
use Rattle.sdb_record.specs.Rolls.{prepared_record, forward_record}
use Rattle.sdb_model.specs.declared.answer.Answer.TheVariants as answer
use Rattle.sdb_model.specs.declared.event.Event.TheVariants as event
use Rattle.sdb_model.specs.declared.event.How.TheVariants.{Seen, Lost}
use Rattle.std.specs.FinMap.{empty}
use Rattle.sdb_types.specs.Contents.{Contents, after}
use Rattle.sdb_model.specs.Events.{StoreContents}
use Rattle.law_protocol.specs.Plan.{Plan}
use Rattle.sdb_model.specs.ReadSet.{KeyRead}
use Rattle.law_protocol.specs.History.{Other, Begins, Takes, Prepares, Checks, Decides, Rolls, Removes, Stops, Yes, NoAck}
use Rattle.law_protocol.specs.Lawful.{Labelled, id, labelled_with, ends_with as ending}

-- the account with id 1
abbrev pub account : Key
account = record { table = record { ns = codes "bank"; table = codes "account" }; partition = value.Int (pos 1) ∷ []; clustering = [] }

abbrev pub balance : ℤ → List Pair
balance n = record { name = codes "balance"; value = value.Int n } ∷ []

-- the first transactions of clients 1, 2 and 3
abbrev pub one : ℕ
one = 1 * 2 ^ 64 + 1

abbrev pub two : ℕ
two = 2 * 2 ^ 64 + 1

abbrev pub three : ℕ
three = 3 * 2 ^ 64 + 1

-- the first inserts the account
abbrev pub inserts : Write
inserts = record { key = account; base = None; change = change.Row (balance (pos 100)) }

-- the second updates it
abbrev pub updates : Write
updates = record { key = account; base = Some (forward_record (prepared_record inserts (id one) (pos 0)) (pos 0)); change = change.Row (balance (pos 7)) }

-- or deletes it
abbrev pub deletes_it : Write
deletes_it = record { key = account; base = Some (forward_record (prepared_record inserts (id one) (pos 0)) (pos 0)); change = change.Delete }

-- what a transaction prepares for a write, and what that is rolled forward to
abbrev pub prepared : Write → ℕ → Record
prepared w t = prepared_record w (id t) (pos 0)

abbrev pub forward : Write → ℕ → Record
forward w t = forward_record (prepared w t) (pos 0)

abbrev pub read_at : Option ℕ → Read
read_at version = record { key = account; version = option_map id version }

abbrev pub nothing : Plan
nothing = record { writes = []; read_set = []; now = pos 0 }

-- the second transaction makes this write; the third reads what it left
abbrev pub plan_with : Write → ℕ → Plan
plan_with w t =
    if t == one then record { writes = inserts ∷ []; read_set = KeyRead (read_at None) ∷ []; now = pos 0 }
    else if t == two then record { writes = w ∷ []; read_set = KeyRead (read_at (Some one)) ∷ []; now = pos 0 }
    else if t == three then record { writes = []; read_set = KeyRead (read_at (Some two)) ∷ []; now = pos 0 }
    else nothing

---- events

abbrev pub take_of : ℕ → List ℕ → Option Answer → Event
take_of client text answer = event.Take client text answer

-- a call on the one store, seen
abbrev pub call : ℕ → Request → Reply → Option Answer → Event
call client q r answer = event.Call client (codes "ordered") q Seen r answer

abbrev pub put_row : ℕ → Request
put_row t = ask.PutIf (coordinator_row_of (id t) Committed (pos 0)) condition.Absent

abbrev pub row : ℕ → Record
row t = coordinator_row_of (id t) Committed (pos 0)

abbrev pub count_one : Option Answer
count_one = Some (answer.Count 1)

-- client 1 inserts the account
abbrev pub first_run : List Labelled
first_run =
    ending one (Rolls one (account ∷ []) Committed) (call 1 (ask.PutIf (forward inserts one) (condition.Version (id one) state.Prepared)) reply.Applied (Some answer.Committed))
    ∷ labelled_with (Decides one Yes) (call 1 (put_row one) reply.Applied None)
    ∷ labelled_with (Prepares one (account ∷ []) Yes) (call 1 (ask.PutIf (prepared inserts one) condition.Absent) reply.Applied None)
    ∷ labelled_with (Takes one) (take_of 1 (codes "COMMIT") None)
    ∷ labelled_with Other (call 1 (ask.Get account) (reply.Found None) count_one)
    ∷ labelled_with Other (take_of 1 (codes "INSERT INTO bank.account (id, balance) VALUES (1, 100)") None)
    ∷ labelled_with (Begins one 1) (take_of 1 (codes "BEGIN") (Some answer.Done))
    ∷ []

-- client 2 reads it and prepares a write of it
abbrev pub second_run : Write → List ℕ → List Labelled
second_run w text =
    labelled_with (Prepares two (account ∷ []) Yes) (call 2 (ask.PutIf (prepared w two) (condition.Version (id one) state.Committed)) reply.Applied None)
    ∷ labelled_with (Takes two) (take_of 2 (codes "COMMIT") None)
    ∷ labelled_with Other (call 2 (ask.Get account) (reply.Found (Some (forward inserts one))) count_one)
    ∷ labelled_with Other (take_of 2 text None)
    ∷ labelled_with (Begins two 2) (take_of 2 (codes "BEGIN") (Some answer.Done))
    ∷ first_run

abbrev pub update_text : List ℕ
update_text = codes "UPDATE bank.account SET balance = 7 WHERE id = 1"

abbrev pub delete_text : List ℕ
delete_text = codes "DELETE FROM bank.account WHERE id = 1"

-- The reply to its put of COMMITTED is lost; it looks, finds its row, and rolls forward.
abbrev pub lost_decision : List Labelled
lost_decision =
    ending two (Rolls two (account ∷ []) Committed) (call 2 (ask.PutIf (forward updates two) (condition.Version (id two) state.Prepared)) reply.Applied (Some answer.Committed))
    ∷ labelled_with Other (call 2 (ask.Get (coordinator_key_of (id two))) (reply.Found (Some (row two))) None)
    ∷ labelled_with (Decides two NoAck) (event.Call 2 (codes "ordered") (put_row two) Lost reply.Fault None)
    ∷ second_run updates update_text

-- It stops after its put of COMMITTED; client 3 finds what it prepared, then its row, and rolls it forward, reads it, checks
-- it and commits.
abbrev pub recovery : List Labelled
recovery =
    ending three (Decides three Yes) (call 3 (put_row three) reply.Applied (Some answer.Committed))
    ∷ labelled_with (Checks three 0) (call 3 (ask.Get account) (reply.Found (Some (forward updates two))) None)
    ∷ labelled_with (Takes three) (take_of 3 (codes "COMMIT") None)
    ∷ labelled_with (Rolls two (account ∷ []) Committed) (call 3 (ask.PutIf (forward updates two) (condition.Version (id two) state.Prepared)) reply.Applied (Some (answer.Rows ((value.Int (pos 7) ∷ []) ∷ []))))
    ∷ labelled_with Other (call 3 (ask.Get (coordinator_key_of (id two))) (reply.Found (Some (row two))) None)
    ∷ labelled_with Other (call 3 (ask.Get account) (reply.Found (Some (prepared updates two))) None)
    ∷ labelled_with Other (take_of 3 (codes "SELECT balance FROM bank.account WHERE id = 1") None)
    ∷ labelled_with (Begins three 3) (take_of 3 (codes "BEGIN") (Some answer.Done))
    ∷ labelled_with (Stops 2) (event.Stop 2)
    ∷ labelled_with (Decides two Yes) (call 2 (put_row two) reply.Applied None)
    ∷ second_run updates update_text

-- It deletes the account, and VACUUM removes the tombstone.
abbrev pub vacuumed : List Labelled
vacuumed =
    labelled_with (Removes account two) (call 4 (ask.DeleteIf account (condition.Version (id two) state.Committed)) reply.Applied (Some (answer.Count 1)))
    ∷ labelled_with Other (call 4 (ask.Scan (record { table = account.table; partition = None })) (reply.Rows (forward deletes_it two ∷ [])) None)
    ∷ labelled_with Other (take_of 4 (codes "VACUUM") None)
    ∷ ending two (Rolls two (account ∷ []) Committed) (call 2 (ask.PutIf (forward deletes_it two) (condition.Version (id two) state.Deleted)) reply.Applied (Some answer.Committed))
    ∷ labelled_with (Decides two Yes) (call 2 (put_row two) reply.Applied None)
    ∷ second_run deletes_it delete_text

---- runs that leave the protocol

-- the put of COMMITTED without the prepare
abbrev pub decided_early : List Labelled
decided_early =
    labelled_with (Decides one Yes) (call 1 (put_row one) reply.Applied None)
    ∷ labelled_with (Takes one) (take_of 1 (codes "COMMIT") None)
    ∷ labelled_with Other (call 1 (ask.Get account) (reply.Found None) count_one)
    ∷ labelled_with Other (take_of 1 (codes "INSERT INTO bank.account (id, balance) VALUES (1, 100)") None)
    ∷ labelled_with (Begins one 1) (take_of 1 (codes "BEGIN") (Some answer.Done))
    ∷ []

-- a second prepare of the same key
abbrev pub prepared_twice : List Labelled
prepared_twice =
    labelled_with (Prepares two (account ∷ []) Yes) (call 2 (ask.PutIf (prepared updates two) (condition.Version (id one) state.Committed)) reply.Applied None)
    ∷ second_run updates update_text

-- a roll forward after the lost decision, without a look
abbrev pub rolled_blindly : List Labelled
rolled_blindly =
    ending two (Rolls two (account ∷ []) Committed) (call 2 (ask.PutIf (forward updates two) (condition.Version (id two) state.Prepared)) reply.Applied (Some answer.Committed))
    ∷ labelled_with (Decides two NoAck) (event.Call 2 (codes "ordered") (put_row two) Lost reply.Fault None)
    ∷ second_run updates update_text

-- a check that finds a prepared record where a committed one was recorded
abbrev pub checked_changed : List Labelled → List Labelled
checked_changed past = labelled_with (Checks three 0) (call 3 (ask.Get account) (reply.Found (Some (prepared updates two))) None) ∷ past

-- a tombstone removed while a transaction is open
abbrev pub removed_while_open : List Labelled
removed_while_open =
    labelled_with (Removes account two) (call 4 (ask.DeleteIf account (condition.Version (id two) state.Committed)) reply.Applied (Some (answer.Count 1)))
    ∷ labelled_with Other (call 4 (ask.Scan (record { table = account.table; partition = None })) (reply.Rows (forward deletes_it two ∷ [])) None)
    ∷ labelled_with Other (take_of 4 (codes "VACUUM") None)
    ∷ labelled_with (Begins three 3) (take_of 3 (codes "BEGIN") (Some answer.Done))
    ∷ ending two (Rolls two (account ∷ []) Committed) (call 2 (ask.PutIf (forward deletes_it two) (condition.Version (id two) state.Deleted)) reply.Applied (Some answer.Committed))
    ∷ labelled_with (Decides two Yes) (call 2 (put_row two) reply.Applied None)
    ∷ second_run deletes_it delete_text

---- a trace of the first run

-- what the one store holds
abbrev pub store_with : Contents → List StoreContents
store_with held = record { name = codes "ordered"; contents = held } ∷ []

abbrev pub when_prepared : Contents
when_prepared = after (ask.PutIf (prepared inserts one) condition.Absent) empty

abbrev pub when_decided : Contents
when_decided = after (put_row one) when_prepared

abbrev pub when_rolled : Contents
when_rolled = after (ask.PutIf (forward inserts one) (condition.Version (id one) state.Prepared)) when_decided

abbrev pub first_moments : List (List StoreContents)
first_moments =
    store_with when_rolled ∷ store_with when_decided ∷ store_with when_prepared ∷ store_with empty ∷ store_with empty ∷ store_with empty ∷ store_with empty ∷ []
