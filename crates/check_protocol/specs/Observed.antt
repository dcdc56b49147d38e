-- What the replies showed: the records, and tests on them.
use Rattle.std.specs.Prelude.{ℕ, ℤ, Bool, true, false, not, ◌&&◌, ◌||◌, ◌==◌, if◌then◌else◌, List, [], ◌∷◌, ◌++◌, Option, Some, None, is_some, is_none}
use Rattle.std.specs.Option.{option_map_or}
use Rattle.std.specs.Result.{result_ok}
use Rattle.std.specs.Ordering.{is_eq}
use Rattle.std.specs.List.{list_any, filter_map}
use Rattle.check_protocol.specs.Types.{Decided, Event, Key, Pair, Record, Reply, TxId, Value}
use Rattle.sdb_types.specs.declared.value.Value.TheVariants as value
use Rattle.sdb_types.specs.declared.record.State.TheVariants.{Deleted, Committed}
use Rattle.sdb_types.specs.declared.record.Reply.TheVariants as reply
use Rattle.sdb_types.specs.Columns.{column}
use Rattle.sdb_types.specs.Contents.{tx_id, has_value, record_among}
use Rattle.sdb_types.specs.Order.{value_cmp, same_key}
use Rattle.sdb_record.specs.Coordinator.{coordinator_key_of, decision_in}
use Rattle.sdb_record.specs.Meta.{id_in, id_in_value, is_in}
use Rattle.sdb_record.specs.Names.{tx_tombstone, before_name, base_name, same_name}
use Rattle.sdb_record.specs.Parts.{is_before_pair}
use Rattle.sdb_record.specs.Rolls.{forward_record, is_tombstone}
use Rattle.sdb_model.specs.declared.event.Event.TheVariants as event
use Rattle.law_protocol.specs.Lawful.{id}
use Rattle.check_protocol.specs.Values.{same_record}
use Rattle.check_protocol.specs.declared.labelled.Labelled.{Labelled}
use Rattle.check_protocol.specs.declared.records.Trace.{Trace}
use Rattle.check_protocol.specs.declared.records.Trace.TheVariants as trace
use Rattle.sdb_model.specs.Counted.{is_committed as is_commit}

---- the records observed

-- the first row of its key
abbrev pub is_first : List Record → Record → Bool
is_first rows r = option_map_or (λ x. same_record x r) (record_among rows r.key) false

abbrev pub with_rows : List Record → List Record → List Record → List Record
with_rows rows [] found = found
with_rows rows (r ∷ rs) found = with_rows rows rs (if is_first rows r then found ++ r ∷ [] else found)

abbrev pub with_found : Option Record → List Record → List Record
with_found None found = found
with_found (Some r) found = found ++ r ∷ []

-- with the records that a reply shows
abbrev pub with_reply : Reply → List Record → List Record
with_reply (reply.Found o) found = with_found o found
with_reply (reply.Rows rows) found = with_rows rows rows found
with_reply reply.Applied found = found
with_reply (reply.NotMet o) found = with_found o found
with_reply (reply.NotAll place o) found = with_found o found
with_reply reply.Fault found = found
with_reply reply.NoMemory found = found

abbrev pub with_event : Event → List Record → List Record
with_event (event.Call client store q how r answer) found = with_reply r found
with_event (event.Take client text answer) found = found
with_event (event.Stop client) found = found
with_event (event.Clock moment) found = found
with_event (event.Idle client) found = found
with_event (event.Land number store q how r) found = found
with_event (event.Alter table column kind altered) found = found

abbrev pub gathered : List Labelled → List Record → List Record
gathered [] found = found
gathered (p ∷ past) found = gathered past (with_event p.event found)

-- the records that events showed
abbrev pub observed : List Labelled → List Record
observed past = gathered past []

---- single records

abbrev pub writer_is : ℕ → Option TxId → Bool
writer_is u writer = option_map_or (λ i. u == i.0) writer false

-- the writer of the record that a before image keeps
abbrev pub before_writer : List Pair → Option TxId
before_writer ps = id_in_value (column ps (before_name tx_id))

abbrev pub has_tombstone_before : List Pair → Bool
has_tombstone_before ps = has_value (column ps (before_name tx_tombstone)) (value.Bool true)

abbrev pub no_more : List Pair → Bool
no_more [] = true
no_more (p ∷ ps) = false

abbrev pub before_matches_next : Option (List ℕ) → Value → (List Pair → Bool) → List Pair → Bool
before_matches_next None v rest base = rest base
before_matches_next (Some name) v rest [] = false
before_matches_next (Some name) v rest (b ∷ bs) = same_name b.name name && (is_eq (value_cmp b.value v) && rest bs)

-- the columns of a before image keep exactly these
abbrev pub before_matches : List Pair → List Pair → Bool
before_matches [] base = no_more base
before_matches (p ∷ ps) base = before_matches_next (base_name p.name) p.value (before_matches ps) base

-- a record keeps this one as its before image
abbrev pub is_before_image_of : Record → Record → Bool
is_before_image_of r b = same_key r.key b.key && (not (no_more b.columns) && before_matches r.columns b.columns)

abbrev pub has_no_before : Record → Bool
has_no_before r = not (list_any is_before_pair r.columns)

-- not committed, at a key
abbrev pub is_prepared_at : Key → Record → Bool
is_prepared_at k r = same_key r.key k && not (is_in Committed r.columns)

abbrev pub is_prepared_by : ℕ → Key → Record → Bool
is_prepared_by u k r = is_prepared_at k r && writer_is u (id_in r.columns)

-- not committed, at a key, and keeps this one
abbrev pub is_back_to : Key → Record → Record → Bool
is_back_to k b r = is_prepared_at k r && (is_some (id_in r.columns) && is_before_image_of r b)

-- a committed record of this writer at a key; one that isn't, and keeps one of this writer
abbrev pub is_committed_by : ℕ → Key → Record → Bool
is_committed_by u k r = same_key r.key k && (is_in Committed r.columns && writer_is u (id_in r.columns))

abbrev pub has_before_by : ℕ → Key → Record → Bool
has_before_by u k r = is_prepared_at k r && (is_some (id_in r.columns) && writer_is u (before_writer r.columns))

-- the same, and one that isn't committed, where what a read comes to is a tombstone
abbrev pub is_removed_by : ℕ → Key → Record → Bool
is_removed_by u k r = same_key r.key k && (is_in Committed r.columns && (writer_is u (id_in r.columns) && is_tombstone r))

abbrev pub has_removed_before_by : ℕ → Key → Record → Bool
has_removed_before_by u k r = is_prepared_at k r && (is_some (id_in r.columns) && (writer_is u (before_writer r.columns) && has_tombstone_before r.columns))

abbrev pub is_prepared_removed_by : ℕ → Key → Record → Bool
is_prepared_removed_by u k r = is_prepared_by u k r && (is_in Deleted r.columns || is_tombstone r)

---- rows of the coordinator

abbrev pub decided : Record → Option Decided
decided r = result_ok (decision_in r)

abbrev pub commits : Option Decided → Bool
commits d = option_map_or (λ x. is_commit x.decision) d false

abbrev pub aborts : Option Decided → Bool
aborts d = option_map_or (λ x. not (is_commit x.decision)) d false

abbrev pub commit_moment : Option Decided → Option ℤ
commit_moment None = None
commit_moment (Some d) = if is_commit d.decision then Some d.created_at else None

abbrev pub row_moment : Key → Record → Option ℤ
row_moment row r = if same_key r.key row then commit_moment (decided r) else None

-- a record is one that is looked for
abbrev pub has_trace : Trace → Record → Bool
has_trace (trace.Itself b) r = same_record r b.now
has_trace (trace.Back k b) r = is_back_to k.now b.now r
has_trace (trace.Committed k t) r = is_committed_by t.0 k.now r
has_trace (trace.Kept k t) r = has_before_by t.0 k.now r
has_trace (trace.Held k t) r = is_prepared_by t.0 k.now r
has_trace (trace.CommittedTombstone k t) r = is_removed_by t.0 k.now r
has_trace (trace.KeptTombstone k t) r = has_removed_before_by t.0 k.now r
has_trace (trace.HeldTombstone k t) r = is_prepared_removed_by t.0 k.now r
has_trace (trace.Commit row) r = same_key r.key row.now && commits (decided r)
has_trace (trace.Abort row) r = same_key r.key row.now && aborts (decided r)
has_trace (trace.BadRow row) r = same_key r.key row.now && is_none (decided r)

-- a row of this key was observed that says COMMITTED, or ABORTED, or is none
abbrev pub observes_commit : List Record → Key → Bool
observes_commit rs row = list_any (λ r. same_key r.key row && commits (decided r)) rs

abbrev pub observes_abort : List Record → Key → Bool
observes_abort rs row = list_any (λ r. same_key r.key row && aborts (decided r)) rs

abbrev pub observes_bad_row : List Record → Key → Bool
observes_bad_row rs row = list_any (λ r. same_key r.key row && is_none (decided r)) rs

-- the moments of the rows COMMITTED that were observed
abbrev pub moments : List Record → Key → List ℤ
moments rs row = filter_map (row_moment row) rs

---- committed records that a read comes to

-- this is what the record is rolled forward to at a moment
abbrev pub is_forward_at : Record → ℤ → Record → Bool
is_forward_at r m b = same_record b (forward_record r m)

abbrev pub is_forward : Record → List ℤ → Record → Bool
is_forward r ms b = list_any (λ m. is_forward_at r m b) ms

abbrev pub is_itself : List Record → Key → Record → Bool
is_itself rs k b = list_any (λ r. same_record r b) rs && (same_key b.key k && is_in Committed b.columns)

abbrev pub is_back : List Record → Key → Record → Bool
is_back rs k b = list_any (is_back_to k b) rs

abbrev pub forward_from : List Record → Key → Record → Record → Bool
forward_from rs k b r = is_prepared_at k r && option_map_or (λ i. is_forward r (moments rs (coordinator_key_of i)) b) (id_in r.columns) false

abbrev pub is_settled : List Record → Key → Record → Bool
is_settled rs k b = is_itself rs k b || (is_back rs k b || list_any (forward_from rs k b) rs)

-- a record of this writer that a read of the key comes to
abbrev pub settles : List Record → Key → ℕ → Bool
settles rs k u =
    list_any (is_committed_by u k) rs
    || (list_any (has_before_by u k) rs
    || (list_any (is_prepared_by u k) rs && observes_commit rs (coordinator_key_of (id u))))

-- and that is a tombstone
abbrev pub settles_removed : List Record → Key → ℕ → Bool
settles_removed rs k u =
    list_any (is_removed_by u k) rs
    || (list_any (has_removed_before_by u k) rs
    || (list_any (is_prepared_removed_by u k) rs && observes_commit rs (coordinator_key_of (id u))))
