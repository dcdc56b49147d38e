-- Tests that hold exactly where the definitions of causes do: what there is to be found is looked for among the calls.
use Rattle.std.specs.Prelude.{◌≡◌, ◌⊎◌, ◌↔◌, ℕ, zero, suc, ℤ, Bool, true, false, not, ◌&&◌, ◌||◌, ◌==◌, ◌+◌, ◌-◌, nat_le, nat_lt, if◌then◌else◌, List, [], ◌∷◌, filter, length, Option, Some, None, is_none, codes, IfSome}
use Rattle.std.specs.Option.{option_and_then, option_map, option_map_or}
use Rattle.std.specs.Ordering.{int_eq}
use Rattle.std.specs.List.{AllByRecursion, list_any}
use Rattle.std.specs.Result.{result_ok}
use Rattle.check_answers.specs.Types.{Answer, Decided, Decision, Event, Insert, Key, Made, Record, Refusal, Reply, Request, Statement, Table, TxId}
use Rattle.sdb_types.specs.declared.record.Request.TheVariants as ask
use Rattle.sdb_types.specs.declared.record.Reply.TheVariants as reply
use Rattle.sdb_types.specs.Contents.{in_span, record_among}
use Rattle.sdb_record.specs.declared.coordinator.Decision.TheVariants as decision
use Rattle.sdb_record.specs.Coordinator.{decision_in, is_coordinator_table, is_expired, same_decision}
use Rattle.sdb_record.specs.Meta.{checked, id_in, is_unresolved, moment_in}
use Rattle.sdb_record.specs.Moved.{is_unchanged, same_version}
use Rattle.sdb_record.specs.Parts.{before_part}
use Rattle.sdb_record.specs.Among.{version_among}
use Rattle.sdb_model.specs.declared.answer.Answer.TheVariants as answer
use Rattle.sdb_model.specs.contracts.answer.AnswerPartialEq.TheImpl as answer_eq
use Rattle.sdb_model.specs.declared.statement.Statement.TheVariants as statement
use Rattle.sdb_model.specs.Sql.{Reads, Refuses, reads_commit}
use Rattle.sdb_model.specs.Exec.{find_table, key_of, named_table}
use Rattle.sdb_model.specs.Access.{in_access}
use Rattle.sdb_model.specs.Reads.{access_of}
use Rattle.sdb_model.specs.Refused.{refusal_of}
use Rattle.sdb_model.specs.Rows.{same_name}
use Rattle.sdb_model.specs.Requests.{observed_in, records_put}
use Rattle.sdb_model.specs.Transactions.{Executed, client_of, commit_of, id_of, is_effective, is_prepared_record, ordinal_of, statements_by, statements_of}
use Rattle.sdb_model.specs.Catalogs.{catalog_after}
use Rattle.sdb_model.specs.Calls as calls
use Rattle.sdb_model.specs.Calls.{clock_at, calls_of, decision_learned, is_read, put_by, records_read, records_observed}
use Rattle.sdb_model.specs.ReadSet.{ReadItem, KeyRead, SpanRead, read_set_of, reads_rows, version_read, meaning_of, has_read}
use Rattle.sdb_model.specs.Causes.{IsCaused, IsCounted, IsRejected, before, is_misfit, is_select, prepares_key, records_found, refused, removes, counted_by}
use Rattle.sdb_model.specs.Follows.{is_open}
use Rattle.check_protocol.specs.Values.{same_record}
use Rattle.check_answers.specs.declared.sign.Sign.{Sign}
use Rattle.check_answers.specs.declared.sign.Sign.TheVariants as sign
use Rattle.check_tables.specs.declared.open.Work.TheVariants as work
use Rattle.check_tables.specs.Values.{all_made, asks_row, decision_found_at, inside_among, made_of, someone_does, taker}
use Rattle.sdb_types.specs.Replies.{is_fault}
use Rattle.sdb_types.specs.Order.{same_key}
use Rattle.sdb_client.specs.Client.{is_out_of_memory}

---- equality

unfoldable pub same_answer : Answer → Answer → Bool
same_answer a b = (answer_eq.ghosts).eq a b

abbrev pub answered_alike : Option Answer → Option Answer → Bool
answered_alike None None = true
answered_alike None (Some b) = false
answered_alike (Some a) None = false
answered_alike (Some a) (Some b) = same_answer a b

abbrev pub same_executed : Executed → Executed → Bool
same_executed a b = (a.accepted == b.accepted) && ((a.reached == b.reached) && (same_name a.text b.text && answered_alike a.answer b.answer))

abbrev pub same_found : Option Record → Option Record → Bool
same_found None None = true
same_found None (Some b) = false
same_found (Some a) None = false
same_found (Some a) (Some b) = same_record a b

---- numbers up to one

abbrev pub any_upto : (ℕ → Bool) → ℕ → Bool
any_upto f zero = false
any_upto f (suc n) = f (suc n) || any_upto f n

-- some transaction of a client, by its client's statements
abbrev pub any_id : List Event → ℕ → (TxId → Bool) → Bool
any_id events client f = any_upto (λ k. f (id_of client k)) (length (statements_by client events))

---- Busy

abbrev pub is_id : Option TxId → TxId → Bool
is_id found id = option_map_or (λ i. i.0 == id.0) found false

abbrev pub is_at : Option ℤ → ℤ → Bool
is_at found at = option_map_or (λ n. int_eq n at) found false

abbrev pub prepared_moment : Record → Option ℤ
prepared_moment r = moment_in r.columns (codes "tx_prepared_at")

-- a get of the row that found none, while the record was not expired
abbrev pub gets_none : List Event → Key → ℤ → ℕ → Request → Reply → Bool
gets_none events row at n (ask.Get key) (reply.Found None) = same_key key row && not (is_expired at (clock_at events n))
gets_none events row at n q r = false

abbrev pub looks_early : List Event → ℕ → Key → ℤ → Made → Bool
looks_early events after row at m = nat_lt after m.at && gets_none events row at m.at m.request m.reply

abbrev pub is_early : List Event → List Made → Made → Record → TxId → Key → ℤ → Bool
is_early events ms read r id row at = is_unresolved r && (is_id (id_in r.columns) id && (is_at (prepared_moment r) at && list_any (looks_early events read.at row at) ms))

-- a read found such a record at the key
abbrev pub reads_busy : List Event → List Made → Key → TxId → Key → ℤ → Made → Bool
reads_busy events ms key id row at m = is_read m.request && list_any (λ r. same_key r.key key && is_early events ms m r id row at) (records_read m.reply)

abbrev pub busy_among : List Event → List Made → Key → TxId → Key → ℤ → Bool
busy_among events ms key id row at = list_any (reads_busy events ms key id row at) ms

---- the calls of a COMMIT

abbrev pub is_executed : Option Executed → Executed → Bool
is_executed found s = option_map_or (λ x. same_executed x s) found false

abbrev pub is_commit_of : List Event → ℕ → Executed → TxId → Bool
is_commit_of events client s id = (client_of id == client) && is_executed (commit_of events id) s

abbrev pub is_in : List Event → ℕ → Executed → TxId → Bool
is_in events client s id = (client_of id == client) && list_any (same_executed s) (statements_of events id)

abbrev pub is_decided : Decision → Option Decided → Bool
is_decided wanted found = option_map_or (λ d. same_decision d.decision wanted) found false

-- it is the COMMIT of this transaction, and these calls showed first that this is committed
abbrev pub commits_as : List Event → ℕ → Executed → List Made → TxId → Bool
commits_as events client s ms id = is_commit_of events client s id && is_decided decision.Committed (decision_learned (all_made ms) id)

abbrev pub puts_row : Key → Decision → Made → Bool
puts_row row wanted m = asks_row row m.request && is_decided wanted (option_and_then (λ r. result_ok (decision_in r)) (put_by m.request))

abbrev pub put_before : Key → ℕ → Made → Bool
put_before row n m = nat_lt m.at n && puts_row row decision.Aborted m

abbrev pub found_aborted : List Made → Key → Made → Bool
found_aborted ms row m = is_decided decision.Aborted (decision_found_at row m) && not (list_any (put_before row m.at) ms)

abbrev pub expired_among : List Made → Key → Bool
expired_among ms row = list_any (found_aborted ms row) ms

abbrev pub has_failed : Reply → Bool
has_failed reply.Fault = true
has_failed reply.NoMemory = true
has_failed r = false

abbrev pub fails_later : Key → ℕ → Made → Bool
fails_later row n m = nat_lt n m.at && (asks_row row m.request && has_failed m.reply)

abbrev pub is_lost_put : List Made → Key → Made → Bool
is_lost_put ms row put = puts_row row decision.Committed put && (is_fault put.reply && list_any (fails_later row put.at) ms)

abbrev pub unknown_among : List Made → Key → Bool
unknown_among ms row = list_any (is_lost_put ms row) ms

---- Conflict

abbrev pub is_changed : Key → Option Record → ReadItem → Bool
is_changed key found n = option_map_or (λ version. not (is_unchanged found version)) (version_read n key) false

abbrev pub has_changed_from : List ReadItem → Key → Option Record → Bool
has_changed_from read_set key found = list_any (is_changed key found) read_set

-- a reply shows this at a key that its request names
abbrev pub observes : Request → Reply → Key → Option Record → Bool
observes q r key found = list_any (λ s. same_key s.0 key && same_found s.1 found) (observed_in q r)

abbrev pub is_unmet : TxId → Key → Option Record → Made → Bool
is_unmet id key found m = prepares_key id key (made_of m) && observes m.request m.reply key found

abbrev pub get_observes : Request → Reply → Key → Option Record → Bool
get_observes (ask.Get k) (reply.Found stored_at) key found = same_key k key && same_found stored_at found
get_observes q r key found = false

abbrev pub scan_observes_by : Request → Reply → Key → Option Record → Bool
scan_observes_by (ask.Scan span) (reply.Rows rows) key found = in_span span key && same_found (record_among rows key) found
scan_observes_by q r key found = false

abbrev pub scan_observes : Made → Key → Option Record → Bool
scan_observes m key found = scan_observes_by m.request m.reply key found

abbrev pub read_observes : Made → Key → Option Record → Bool
read_observes m key found = get_observes m.request m.reply key found || scan_observes m key found

abbrev pub has_prepared : List Made → TxId → Key → Bool
has_prepared ms id key = list_any (λ m. prepares_key id key (made_of m)) ms

-- what a call found at a key was found by a prepare that was not met, or by a check of a key that was not prepared
abbrev pub is_found_by : List Made → TxId → Key → Option Record → Bool
is_found_by ms id key found = list_any (is_unmet id key found) ms || (not (has_prepared ms id key) && list_any (λ m. read_observes m key found) ms)

-- the version of the base of a record that is put
abbrev pub base_put : Record → Option TxId
base_put r = id_in (before_part r.columns)

abbrev pub scan_differs : Key → Option TxId → ReadItem → Bool
scan_differs key base (KeyRead read) = false
scan_differs key base (SpanRead scan) = in_span scan.span key && not (same_version base (version_among scan.found key))

-- a record is prepared at the key over another version than a scan was recorded with
abbrev pub is_rebase : List ReadItem → TxId → Key → Record → Bool
is_rebase read_set id key r = (is_prepared_record id r && same_key r.key key) && list_any (scan_differs key (base_put r)) read_set

abbrev pub is_rebased : List Made → List ReadItem → TxId → Key → Bool
is_rebased ms read_set id key = list_any (λ m. list_any (is_rebase read_set id key) (records_put m.request)) ms

abbrev pub conflict_at_commit : List Made → List ReadItem → TxId → Key → Option Record → Bool
conflict_at_commit ms read_set id key found = (has_changed_from read_set key found && is_found_by ms id key found) || (list_any (λ m. scan_observes m key found) ms && is_rebased ms read_set id key)

abbrev pub means_by : List Made → Key → Option Record → Request → Reply → Bool
means_by ms key found (ask.Scan span) (reply.Rows rows) = in_span span key && same_found (option_and_then (meaning_of (all_made ms)) (record_among rows key)) found
means_by ms key found q r = false

abbrev pub means : List Made → Key → Option Record → Made → Bool
means ms key found m = means_by ms key found m.request m.reply

abbrev pub conflict_at_scan : List Made → List ReadItem → Key → Option Record → Bool
conflict_at_scan ms read_set key found = has_changed_from read_set key found && list_any (means ms key found) ms

-- a statement ends this transaction, or is one of it, and has its conflict
abbrev pub conflict_of : List Event → ℕ → Executed → List Made → Key → Option Record → TxId → Bool
conflict_of events client s ms key found id =
    (is_commit_of events client s id && conflict_at_commit ms (read_set_of events id) id key found)
    || (not (reads_commit s.text) && (is_in events client s id && conflict_at_scan ms (read_set_of events id) key found))

-- a call is one that is looked for
abbrev pub has_sign : Sign → Made → Bool
has_sign (sign.Look events after row at) m = looks_early events.now after row.now at m
has_sign (sign.Abort row n) m = put_before row.now n m
has_sign (sign.Failure row n) m = fails_later row.now n m
has_sign (sign.Prepare id key) m = prepares_key id key.now (made_of m)
has_sign (sign.Unmet id key found) m = is_unmet id key.now found.now m
has_sign (sign.Read key found) m = read_observes m key.now found.now
has_sign (sign.Scan key found) m = scan_observes m key.now found.now
has_sign sign.Fault m = is_fault m.reply

---- too many keys

-- a statement that a test takes, and that was accepted before
abbrev pub is_before : (Executed → Bool) → ℕ → Executed → Bool
is_before t accepted b = t b && nat_lt b.accepted accepted

abbrev pub before_only : (Executed → Bool) → (Executed → ℕ) → ℕ → Executed → ℕ
before_only t f accepted b = if is_before t accepted b then f b else 0

-- a sum over the statements that pass a test
abbrev pub total_before : (Executed → Bool) → (Executed → ℕ) → ℕ → List Executed → ℕ
total_before t f accepted [] = 0
total_before t f accepted (b ∷ bs) = before_only t f accepted b + total_before t f accepted bs

abbrev pub found_by : List Event → ℕ → Executed → ℕ
found_by events client b = records_found (calls_of events client b)

abbrev pub read_by : Made → ℕ
read_by m = if reads_rows (made_of m) then length (records_read m.reply) else 0

abbrev pub found_among : List Made → ℕ
found_among [] = 0
found_among (m ∷ ms) = read_by m + found_among ms

-- the same test by what is left of one more than the most keys: after the rows that were counted, and then the records that were found
abbrev pub passes_left : ℕ → ℕ → Statement → Bool
passes_left written found (statement.Insert i) = nat_le written 1
passes_left written found (statement.Upsert i) = nat_le written 1
passes_left written found (statement.Update u) = found == 0
passes_left written found (statement.Delete d) = found == 0
passes_left written found (statement.Select x) = false
passes_left written found statement.Begin = false
passes_left written found statement.Commit = false
passes_left written found statement.Rollback = false
passes_left written found statement.Vacuum = false

-- what the transaction's statements, up to its end, leave of so many keys before one
abbrev pub written_left : List Event → TxId → ℕ → ℕ
written_left events id accepted = 4097 - total_before is_effective counted_by accepted (inside_among (statements_by (client_of id) events) (ordinal_of id))

abbrev pub found_left : List Event → ℕ → TxId → Executed → ℕ
found_left events client id s =
    (written_left events id s.accepted - total_before (has_read events client) (found_by events client) s.accepted (inside_among (statements_by (client_of id) events) (ordinal_of id))) - found_by events client s

abbrev pub passes_most : List Event → ℕ → Executed → Option Statement → TxId → Bool
passes_most events client s read id = is_in events client s id && option_map_or (passes_left (written_left events id s.accepted) (found_left events client id s)) read false

---- BadRecord

abbrev pub is_bad : Record → Bool
is_bad r = if is_coordinator_table r.key.table then is_none (result_ok (decision_in r)) else is_none (result_ok (checked r.columns))

-- a call shows a record at the key that isn't of the form of records
abbrev pub observes_bad : Key → Made → Bool
observes_bad key m = list_any (λ x. same_key x.key key && is_bad x) (records_observed m.reply)

-- a read of a statement with these calls found a record at the key that means a row which doesn't fit its table
abbrev pub reads_misfit : List Table → List calls.StoreCall → Key → calls.StoreCall → Bool
reads_misfit catalog cs key m = reads_rows m && list_any (λ x. same_key x.key key && is_misfit catalog cs x) (records_read m.reply)

abbrev pub any_misfit : List Table → List calls.StoreCall → Key → Bool
any_misfit catalog cs key = list_any (reads_misfit catalog cs key) cs

-- a statement that was accepted by then, and whose read has finished, found such a record
abbrev pub has_read_misfit : List Table → List Event → ℕ → ℕ → Key → Executed → Bool
has_read_misfit catalog events client accepted key b = nat_le b.accepted accepted && (has_read events client b && any_misfit catalog (calls_of events client b) key)

-- a statement on a table reads at a key
abbrev pub reads_at : List Table → Key → Statement → Bool
reads_at catalog key st = option_map_or (λ t. in_access (access_of t st) key) (named_table catalog st) false

-- it is one of this transaction, of which a statement by then found such a record
abbrev pub misfit_of : List Table → List Event → ℕ → Executed → Key → TxId → Bool
misfit_of catalog events client s key id = is_in events client s id && list_any (has_read_misfit catalog events client s.accepted key) (statements_of events id)

---- texts

-- the statement that a text is read as, if it is read as one
abbrev pub IsReading : List ℕ → Option Statement → Type 0
IsReading text found = (st : Statement) → Reads text st ↔ (found ≡ Some st)

-- the refusal of a text, if it is read as no statement
abbrev pub IsRefusal : List ℕ → Option Refusal → Type 0
IsRefusal text found = (r : Refusal) → Refuses text r ↔ (found ≡ Some r)

---- the causes of single answers

-- a statement that is answered Done
abbrev pub is_done : Statement → Bool
is_done statement.Begin = true
is_done statement.Rollback = true
is_done st = false

-- it is an INSERT of this key
abbrev pub Inserts : List Table → Option Statement → Key → Type 0
Inserts catalog found key = (t : Table) × (i : Insert) × (found ≡ Some (statement.Insert i)) × (find_table catalog i.table ≡ Some t) × (key_of t i ≡ key)

abbrev pub IsOfRows : List Event → ℕ → Executed → Type 0
IsOfRows events client s = (st : Statement) × Reads s.text st × (is_select st ≡ true) × (is_open (before s events) client ≡ true)

-- how many calls of VACUUM removed a tombstone
abbrev pub removed_by : List Made → ℕ
removed_by ms = length (filter (λ m. removes (made_of m)) ms)

-- a statement counts so many rows, where so many tombstones were removed
abbrev pub counts_so : ℕ → ℕ → Statement → Bool
counts_so removed n (statement.Insert i) = n == 1
counts_so removed n (statement.Upsert i) = n == 1
counts_so removed n (statement.Update u) = true
counts_so removed n (statement.Delete d) = true
counts_so removed n (statement.Select x) = false
counts_so removed n statement.Begin = false
counts_so removed n statement.Commit = false
counts_so removed n statement.Rollback = false
counts_so removed n statement.Vacuum = n == removed

abbrev pub IsOfCount : List Event → ℕ → Executed → ℕ → Type 0
IsOfCount events client s n = (st : Statement) × Reads s.text st × IsCounted events client s st n

abbrev pub IsOfDone : Executed → Type 0
IsOfDone s = Reads s.text statement.Begin ⊎ Reads s.text statement.Rollback

abbrev pub IsOfDuplicate : List Table → Executed → Key → Type 0
IsOfDuplicate catalog s key = (t : Table) × (i : Insert) × Reads s.text (statement.Insert i) × (find_table catalog i.table ≡ Some t) × (key_of t i ≡ key)

---- statements that are turned away

-- the refusal of a statement that has to be inside a transaction, and is
abbrev pub refusal_met : List Table → Statement → Option Refusal
refusal_met catalog statement.Commit = None
refusal_met catalog statement.Rollback = None
refusal_met catalog st = refusal_of catalog st

abbrev pub begin_turned : List Event → ℕ → Option Answer
begin_turned past client = if is_open past client then Some (refused 4) else if someone_does work.Vacuum past then Some answer.Vacuuming else None

abbrev pub vacuum_turned : List Event → Option Answer
vacuum_turned past = if someone_does work.Transaction past then Some answer.OpenTransactions else None

abbrev pub inside_turned : List Table → List Event → ℕ → Statement → Option Answer
inside_turned catalog past client st = if is_open past client then option_map answer.Refused (refusal_met (catalog_after catalog past) st) else Some (refused 5)

-- what a statement that a client takes after some events is turned away with
abbrev pub turned_by : List Table → List Event → ℕ → Statement → Option Answer
turned_by catalog past client statement.Begin = begin_turned past client
turned_by catalog past client statement.Vacuum = vacuum_turned past
turned_by catalog past client st = inside_turned catalog past client st

abbrev pub IsTurned : List Table → List Event → ℕ → List ℕ → Option Answer → Type 0
IsTurned catalog past client text found = (a : Answer) → IsRejected catalog past client text a ↔ (found ≡ Some a)

---- all answers

abbrev pub IsAnswerCaused : List Table → List Event → ℕ → Executed → Type 0
IsAnswerCaused catalog events client s = (a : Answer) → s.answer ≡ Some a → IsCaused catalog events client s a

abbrev pub IsAnsweredWith : Executed → Answer → Type 0
IsAnsweredWith s a = (s.reached ≡ s.accepted) × ((s.answer ≡ Some a) ⊎ (s.answer ≡ Some answer.NoMemory))

abbrev pub answered_with : Executed → Answer → Bool
answered_with s a = (s.reached == s.accepted) && option_map_or (λ x. is_out_of_memory x || same_answer x a) s.answer false

abbrev pub IsTurnedIfDue : List Table → List Event → ℕ → Executed → Type 0
IsTurnedIfDue catalog events client s = (a : Answer) → IsRejected catalog (before s events) client s.text a → IsAnsweredWith s a

abbrev pub IsWellAnswered : List Table → List Event → ℕ → Executed → Type 0
IsWellAnswered catalog events client s = IsAnswerCaused catalog events client s × IsTurnedIfDue catalog events client s

abbrev pub IsClientWell : List Table → List Event → ℕ → Type 0
IsClientWell catalog events client = AllByRecursion (IsWellAnswered catalog events client) (statements_by client events)

-- the statements of each client that takes one by these events are answered well
abbrev pub AreTakersWell : List Table → List Event → List Event → Type 0
AreTakersWell catalog events some = AllByRecursion (λ e. IfSome (taker e) (IsClientWell catalog events)) some
