-- Tests that hold exactly where the definitions of counts and of rolls do, over calls as the program has them.
use Rattle.std.specs.Prelude.{◌≡◌, ◌⊎◌, ℕ, ◌+◌, ◌-◌, ◌*◌, Bool, true, false, not, ◌&&◌, ◌||◌, ◌==◌, nat_lt, if◌then◌else◌, List, [], ◌∷◌, length, filter, count_by, Contains}
use Rattle.std.specs.List.{list_all, list_any}
use Rattle.std.specs.Option.{option_map_or}
use Rattle.check_answers.specs.Types.{Event, Key, Made, Record, Request, State, Table, TxId}
use Rattle.sdb_types.specs.declared.record.Condition.TheVariants as condition
use Rattle.sdb_record.specs.Coordinator.{coordinator_key_of}
use Rattle.sdb_record.specs.Meta.{id_in, is_unresolved, state_in}
use Rattle.sdb_model.specs.Calls.{calls_of, is_removal, records_read}
use Rattle.sdb_model.specs.Calls as calls
use Rattle.sdb_model.specs.Causes.{IsCommitOf}
use Rattle.sdb_model.specs.Counted.{IsCommitCounted, IsPassedOver, IsReadCounted, IsResolved, IsVacuumCounted, is_key_of, is_seen, roll_by}
use Rattle.sdb_model.specs.ReadSet.{KeyRead, ReadItem, SpanRead, read_set_of, has_read, reads_rows}
use Rattle.sdb_model.specs.Requests.{records_put}
use Rattle.sdb_model.specs.Sql.{reads_commit, reads_vacuum}
use Rattle.sdb_model.specs.Transactions.{Executed, prepares, is_committed_answer}
use Rattle.check_protocol.specs.Values.{same_request}
use Rattle.check_tables.specs.Values.{decision_at, made_of}
use Rattle.check_answers.specs.Tests.{is_commit_of, is_early, prepared_moment}
use Rattle.sdb_types.specs.Replies.{is_answered}

---- the calls of a COMMIT

abbrev pub all_seen : List Made → Bool
all_seen ms = list_all (λ m. is_seen m.how) ms

abbrev pub is_prepared : List Made → TxId → Key → Bool
is_prepared ms id key = list_any (λ m. prepares id m.request && is_key_of key (made_of m)) ms

-- a COMMIT checks a scan, and a get of a key that it doesn't prepare
abbrev pub is_check : List Made → TxId → ReadItem → Bool
is_check ms id (KeyRead read) = not (is_prepared ms id read.key)
is_check ms id (SpanRead scan) = true

abbrev pub prepares_by : List Made → TxId → ℕ
prepares_by ms id = count_by (λ m. prepares id m.request) ms

abbrev pub checks_by : List Made → List ReadItem → TxId → ℕ
checks_by ms read_set id = count_by (is_check ms id) read_set

-- how many records a call puts, if it is a prepare
abbrev pub puts_by : TxId → Made → ℕ
puts_by id m = if prepares id m.request then length (records_put m.request) else 0

-- so many calls are at most one for each record that is prepared
abbrev pub is_put_for : TxId → ℕ → List Made → Bool
is_put_for id n [] = n == 0
is_put_for id n (m ∷ ms) = is_put_for id (n - puts_by id m) ms

-- at most one call for each prepare, one for each check, four, and one for each record that is prepared
abbrev pub at_most : List Made → List ReadItem → TxId → Bool
at_most ms read_set id = is_put_for id (length ms - (prepares_by ms id + checks_by ms read_set id + 4)) ms

-- two calls for each prepare, one for each check, and one
abbrev pub as_many : List Made → List ReadItem → TxId → Bool
as_many ms read_set id = length ms == 2 * prepares_by ms id + checks_by ms read_set id + 1

abbrev pub commit_counted : List Made → List ReadItem → TxId → Executed → Bool
commit_counted ms read_set id s = at_most ms read_set id && (not (is_committed_answer s.answer && all_seen ms) || as_many ms read_set id)

-- a statement is the COMMIT of a transaction, and its calls are not counted
abbrev pub miscounted : List Event → ℕ → Executed → List Made → TxId → Bool
miscounted events client s ms id = is_commit_of events client s id && not (commit_counted ms (read_set_of events id) id s)

---- the calls of other statements

abbrev pub unresolved_by : Made → ℕ
unresolved_by m = if reads_rows (made_of m) then count_by is_unresolved (records_read m.reply) else 0

-- so many calls are at most so many for each unresolved record
abbrev pub covered : ℕ → ℕ → List Made → Bool
covered each n [] = n == 0
covered each n (m ∷ ms) = covered each (n - each * unresolved_by m) ms

abbrev pub vacuum_counted : List Table → List Made → Bool
vacuum_counted catalog ms = covered 5 (length ms - (length catalog + length (filter (λ m. is_removal m.request) ms))) ms

abbrev pub read_counted : List Made → Bool
read_counted ms = covered 4 (length ms - 1) ms

abbrev pub others_counted : List Table → Executed → List Made → Bool
others_counted catalog s ms = if reads_vacuum s.text then vacuum_counted catalog ms else (reads_commit s.text || read_counted ms)

-- the calls of a statement are counted
pub record IsExecutedCounted (catalog : List Table) (events : List Event) (client : ℕ) (s : Executed) : Type 0 where
  pub commits : (id : TxId) → IsCommitOf events client s id → IsCommitCounted events id s (calls_of events client s)
  pub reads : reads_commit s.text ≡ false → reads_vacuum s.text ≡ false → IsReadCounted (calls_of events client s)
  pub vacuums : reads_vacuum s.text ≡ true → IsVacuumCounted catalog (calls_of events client s)

---- rolls

-- a call after an event was this one, and was seen and answered
abbrev pub is_roll : ℕ → Request → Made → Bool
is_roll n q m = nat_lt n m.at && (is_seen m.how && (is_answered m.reply && same_request m.request q))

abbrev pub rolled_after : List Made → ℕ → Request → Bool
rolled_after ms n q = list_any (is_roll n q) ms

-- a call after the read showed the decision, and a later one rolled the record by it
abbrev pub is_rolled_by : List Made → Made → Record → TxId → State → Made → Bool
is_rolled_by ms read r id state look = nat_lt read.at look.at && option_map_or (λ d. rolled_after ms look.at (roll_by r (condition.Version id state) d)) (decision_at (coordinator_key_of id) look) false

abbrev pub is_rolled_in : List Made → Made → Record → TxId → State → Bool
is_rolled_in ms read r id state = list_any (is_rolled_by ms read r id state) ms

abbrev pub is_rolled : List Made → Made → Record → Bool
is_rolled ms read r = option_map_or (λ id. option_map_or (is_rolled_in ms read r id) (state_in r.columns) false) (id_in r.columns) false

abbrev pub is_early_then : List Event → List Made → Made → Record → TxId → Bool
is_early_then events ms read r id = option_map_or (is_early events ms read r id (coordinator_key_of id)) (prepared_moment r) false

abbrev pub is_passed_over : List Event → Bool → List Made → Made → Record → Bool
is_passed_over events vacuums ms read r = vacuums && option_map_or (is_early_then events ms read r) (id_in r.columns) false

-- a record that a read found needs no roll, or had it
abbrev pub is_well_left : List Event → Bool → List Made → Made → Record → Bool
is_well_left events vacuums ms read r = not (is_unresolved r) || (is_rolled ms read r || is_passed_over events vacuums ms read r)

abbrev pub are_well_left : List Event → Bool → List Made → Made → List Record → Bool
are_well_left events vacuums ms read rows = list_all (is_well_left events vacuums ms read) rows

abbrev pub is_well_read : List Event → Bool → List Made → Made → Bool
is_well_read events vacuums ms m = not (reads_rows (made_of m)) || are_well_left events vacuums ms m (records_read m.reply)

-- each unresolved record that a statement was answered from was rolled, or passed over by VACUUM
pub record IsExecutedResolved (events : List Event) (client : ℕ) (s : Executed) : Type 0 where
  pub records : (m : calls.StoreCall) (r : Record) → has_read events client s ≡ true → Contains (calls_of events client s) m → reads_rows m ≡ true → Contains (records_read m.reply) r → is_unresolved r ≡ true → IsResolved (calls_of events client s) m r ⊎ IsPassedOver events s (calls_of events client s) m r
