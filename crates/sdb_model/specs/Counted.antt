-- How many calls statements make, how unresolved records are rolled, and how many calls of stores may fail.
use Rattle.std.specs.Prelude.{◌≡◌, ◌⊎◌, ◌≤◌, ℕ, ℤ, ◌+◌, ◌*◌, Bool, true, false, not, if◌then◌else◌, List, filter, length, sum_by, Some, Contains, All}
use Rattle.std.specs.Option.{option_map_or}
use Rattle.std.specs.List.{count_by, flat_map, list_any}
use Rattle.std.specs.Ordering.{is_eq}
use Rattle.sdb_model.specs.Types.{Back, Condition, Decided, Decision, Key, Record, Request, State, Table, TxId}
use Rattle.sdb_types.specs.declared.record.Condition.TheVariants as condition
use Rattle.sdb_types.specs.declared.record.Request.TheVariants as ask
use Rattle.sdb_types.specs.declared.record.Reply.TheVariants as reply
use Rattle.sdb_types.specs.Order.{key_cmp}
use Rattle.sdb_record.specs.declared.coordinator.Decision.TheVariants as decision
use Rattle.sdb_record.specs.declared.roll.Back.TheVariants as back
use Rattle.sdb_record.specs.Meta.{id_in, is_unresolved, state_in}
use Rattle.sdb_record.specs.Rolls.{back_of, forward_record}
use Rattle.sdb_model.specs.declared.answer.Answer.TheVariants as answer
use Rattle.sdb_model.specs.declared.event.Event.{Event}
use Rattle.sdb_model.specs.declared.event.Event.TheVariants as event
use Rattle.sdb_model.specs.declared.event.How.{How}
use Rattle.sdb_model.specs.declared.event.How.TheVariants.{Seen, Lost, Discarded, Delayed, Broken}
use Rattle.sdb_model.specs.Sql.{reads_commit, reads_vacuum}
use Rattle.sdb_model.specs.Transactions.{Executed, statements_by, client_of, commit_of, prepares}
use Rattle.sdb_model.specs.Calls.{StoreCall, calls_of, calls_after, decision_observed, is_removal, records_read}
use Rattle.sdb_model.specs.Requests.{records_put}
use Rattle.sdb_model.specs.ReadSet.{ReadItem, KeyRead, SpanRead, read_set_of, has_read, reads_rows}
use Rattle.sdb_model.specs.Causes.{IsEarly}
use Rattle.sdb_types.specs.Replies.{is_answered}

---- the calls of a COMMIT

abbrev pub is_seen : How → Bool
is_seen Seen = true
is_seen Lost = false
is_seen Discarded = false
is_seen Delayed = false
is_seen Broken = false

-- its prepares
abbrev pub prepares_in : TxId → List StoreCall → List StoreCall
prepares_in id calls = filter (λ m. prepares id m.request) calls

-- how many records they put
abbrev pub puts_prepared : TxId → List StoreCall → ℕ
puts_prepared id calls = sum_by (λ m. length (records_put m.request)) (prepares_in id calls)

-- a call puts a record at a key
abbrev pub is_key_of : Key → StoreCall → Bool
is_key_of key m = list_any (λ r. is_eq (key_cmp r.key key)) (records_put m.request)

-- a get of the read set of a key that isn't prepared
abbrev pub is_checked_get : List StoreCall → ReadItem → Bool
is_checked_get prepared (KeyRead read) = not (list_any (is_key_of read.key) prepared)
is_checked_get prepared (SpanRead scan) = false

abbrev pub is_scan : ReadItem → Bool
is_scan (KeyRead read) = false
is_scan (SpanRead scan) = true

-- One for each get of the read set of a key that isn't prepared, and one for each scan of the read set.
abbrev pub checks_wanted : List Event → TxId → List StoreCall → ℕ
checks_wanted events id calls = count_by (is_checked_get (prepares_in id calls)) (read_set_of events id) + count_by is_scan (read_set_of events id)

-- A COMMIT that was answered Committed, all of whose replies were seen, made two calls for each group of keys that was prepared, one for each
-- check, and one more. Any other made at most one for each prepare, one for each record that was prepared, one for each check, and four
-- more.
pub record IsCommitCounted (events : List Event) (id : TxId) (s : Executed) (calls : List StoreCall) : Type 0 where
  pub exact : s.answer ≡ Some answer.Committed → All (λ m. is_seen m.how ≡ true) calls → length calls ≡ 2 * length (prepares_in id calls) + checks_wanted events id calls + 1
  pub most : length calls ≤ length (prepares_in id calls) + (puts_prepared id calls + checks_wanted events id calls) + 4

---- the calls of other statements

abbrev pub unresolved_in : List StoreCall → List Record
unresolved_in calls = filter is_unresolved (flat_map (λ m. records_read m.reply) (filter reads_rows calls))

-- A statement makes one read at most, and four calls more for each unresolved record that it found.
abbrev pub IsReadCounted : List StoreCall → Type 0
IsReadCounted calls = length calls ≤ 1 + 4 * length (unresolved_in calls)

abbrev pub removals_in : List StoreCall → ℕ
removals_in calls = count_by (λ m. is_removal m.request) calls

-- VACUUM makes one scan at most for each table of the catalog, one delete for each tombstone, and five calls at most for each unresolved
-- record.
abbrev pub IsVacuumCounted : List Table → List StoreCall → Type 0
IsVacuumCounted catalog calls = length calls ≤ length catalog + (removals_in calls + 5 * length (unresolved_in calls))

-- The calls of all statements are counted.
pub record AreCounted (catalog : List Table) (events : List Event) : Type 0 where
  pub commits : (id : TxId) (s : Executed) → commit_of events id ≡ Some s → IsCommitCounted events id s (calls_of events (client_of id) s)
  pub reads : (client : ℕ) (s : Executed) → Contains (statements_by client events) s → reads_commit s.text ≡ false → reads_vacuum s.text ≡ false → IsReadCounted (calls_of events client s)
  pub vacuums : (client : ℕ) (s : Executed) → Contains (statements_by client events) s → reads_vacuum s.text ≡ true → IsVacuumCounted catalog (calls_of events client s)

---- rolls

abbrev pub is_committed : Decision → Bool
is_committed decision.Committed = true
is_committed decision.Aborted = false

-- the put or the delete that undoes a record, on this condition
abbrev pub request_of_back : Back → Condition → Request
request_of_back (back.Put r) found = ask.PutIf r found
request_of_back (back.Remove key) found = ask.DeleteIf key found

-- what rolls a record by the decision on its transaction, on condition of what was found
abbrev pub roll_by : Record → Condition → Decided → Request
roll_by r found d = if is_committed d.decision then ask.PutIf (forward_record r d.created_at) found else request_of_back (back_of r) found

-- A read that was answered from an unresolved record had it rolled: a call showed the decision on its transaction, and a later one
-- put what that decision makes of the record, on condition of what was found, and was seen and answered.
pub record IsResolved (calls : List StoreCall) (read : StoreCall) (r : Record) : Type 0 where
  pub id : TxId
  pub state : State
  pub decided : Decided
  pub look : StoreCall
  pub roll : StoreCall
  pub writer : (id_in r.columns ≡ Some id) × (state_in r.columns ≡ Some state)
  pub looks : Contains (calls_after read.at calls) look × (decision_observed id look ≡ Some decided)
  pub rolls : Contains (calls_after look.at calls) roll × (roll.request ≡ roll_by r (condition.Version id state) decided)
  pub answered : (roll.how ≡ Seen) × (is_answered roll.reply ≡ true)

-- VACUUM passes over a record that may not be given up yet.
abbrev pub IsPassedOver : List Event → Executed → List StoreCall → StoreCall → Record → Type 0
IsPassedOver events s calls read r = (id : TxId) × (at : ℤ) × (reads_vacuum s.text ≡ true) × IsEarly events calls read r id at

-- Whoever has finished a read had each unresolved record that was found rolled first.
abbrev pub AreResolved : List Event → Type 0
AreResolved events = (client : ℕ) (s : Executed) (m : StoreCall) (r : Record) → Contains (statements_by client events) s → has_read events client s ≡ true
    → Contains (calls_of events client s) m → reads_rows m ≡ true → Contains (records_read m.reply) r → is_unresolved r ≡ true → IsResolved (calls_of events client s) m r ⊎ IsPassedOver events s (calls_of events client s) m r

---- stores that fail

abbrev pub is_broken : Event → Bool
is_broken (event.Call client store q Broken r answer) = true
is_broken (event.Land number store q Broken r) = true
is_broken e = false

-- how many calls and landings the stores themselves failed
abbrev pub broken_in : List Event → ℕ
broken_in events = count_by is_broken events
