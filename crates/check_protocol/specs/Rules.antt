-- Tests on lists of events that decide the rules of the protocol. Lists have the newest event first.
use Rattle.std.specs.Prelude.{ℕ, ℤ, Bool, true, false, not, nat_lt, ◌^◌, ◌&&◌, ◌||◌, ◌==◌, if◌then◌else◌, List, [], ◌∷◌, ◌++◌, Option, Some, None, is_some, slice_get}
use Rattle.std.specs.Option.{option_map_or}
use Rattle.std.specs.List.{list_any, list_all, enumerate_from}
use Rattle.check_protocol.specs.Types.{Answer, Condition, Decision, Event, Key, Put, Read, Record, Reply, Request, Scan, TxId, Write}
use Rattle.sdb_types.specs.declared.record.State.TheVariants.{Committed}
use Rattle.sdb_types.specs.declared.record.Condition.TheVariants as condition
use Rattle.sdb_types.specs.declared.record.Request.TheVariants as ask
use Rattle.sdb_types.specs.declared.record.Reply.TheVariants as reply
use Rattle.sdb_types.specs.Contents.{in_span, record_among}
use Rattle.sdb_types.specs.Order.{are_distinct, same_key}
use Rattle.sdb_record.specs.declared.coordinator.Decision.TheVariants as decision
use Rattle.sdb_record.specs.Coordinator.{coordinator_key_of, coordinator_row_of, is_coordinator_table}
use Rattle.sdb_record.specs.Meta.{is_in, is_transactional, is_moment, is_committed}
use Rattle.sdb_record.specs.Moved.{version_of, condition_of, is_unchanged, same_version}
use Rattle.sdb_record.specs.Rolls.{is_change, prepared_record}
use Rattle.sdb_record.specs.Among.{version_among, write_among}
use Rattle.sdb_model.specs.declared.event.Event.TheVariants as event
use Rattle.sdb_model.specs.declared.event.How.TheVariants.{Delayed}
use Rattle.sdb_model.specs.Sql.{reads_begin, reads_commit}
use Rattle.sdb_model.specs.ReadSet.{version_read}
use Rattle.law_protocol.specs.Lawful.{id, is_quiet, is_denial, answer_of}
use Rattle.check_protocol.specs.declared.plan.ReadItem.{ReadItem}
use Rattle.check_protocol.specs.declared.plan.ReadItem.TheVariants as item
use Rattle.check_protocol.specs.declared.plan.Plan.{Plan}
use Rattle.check_protocol.specs.declared.labelled.Ack.{Ack}
use Rattle.check_protocol.specs.declared.labelled.Ack.TheVariants as word
use Rattle.check_protocol.specs.declared.labelled.Action.{Action}
use Rattle.check_protocol.specs.declared.labelled.Action.TheVariants as action
use Rattle.check_protocol.specs.declared.labelled.Labelled.{Labelled}
use Rattle.check_protocol.specs.contracts.labelled.ActionPartialEq.TheImpl as action_eq
use Rattle.check_protocol.specs.Values.{item_of, writes_in, items_in, moment_in, same_put, same_request, same_span}
use Rattle.check_protocol.specs.Started.{commit_started_in, begun_in, asked_in, acknowledged_in, checked_in, staged_in, deciding_in, risked_in, won_in, dead_in, met_in, stopped_in, owner_of, open_in}
use Rattle.check_protocol.specs.Observed.{observed, is_prepared_by, is_before_image_of, has_no_before, is_forward_at, moments, observes_commit, observes_abort, observes_bad_row, is_settled, settles, settles_removed}
use Rattle.sdb_model.specs.Transactions.{is_done, is_committed_answer}
use Rattle.sdb_model.specs.Tables.{is_data}

---- writes and read sets

-- a base of a write is a committed record of the key
abbrev pub is_base : Key → Record → Bool
is_base key base = same_key base.key key && (is_transactional base && is_in Committed base.columns)

abbrev pub is_sound : Write → Bool
is_sound w = option_map_or (is_base w.key) w.base true && is_change w.change

-- a write that a transaction may go into its COMMIT with
abbrev pub is_valid_write : List Record → Key → Write → Bool
is_valid_write rs k w = is_sound w && (is_data k && option_map_or (is_settled rs k) w.base true)

abbrev pub is_valid_key : List Record → List Write → Write → Bool
is_valid_key rs ws w = option_map_or (is_valid_write rs w.key) (write_among ws w.key) true

abbrev pub are_valid_writes : List Record → List Write → List Write → Bool
are_valid_writes rs ws some = list_all (is_valid_key rs ws) some

abbrev pub is_valid_version : List Record → Key → Option TxId → Bool
is_valid_version rs k version = option_map_or (λ v. settles rs k v.0) version true

abbrev pub is_valid_found : List Record → Scan → Read → Bool
is_valid_found rs scan read = not (in_span scan.span read.key) || is_valid_version rs read.key (version_among scan.found read.key)

abbrev pub is_valid_item : List Record → ReadItem → Bool
is_valid_item rs (item.KeyRead read) = is_data read.key && is_valid_version rs read.key read.version
is_valid_item rs (item.SpanRead scan) = not (is_coordinator_table scan.span.table) && list_all (is_valid_found rs scan) scan.found

---- calls

abbrev pub matches_reply : Ack → Reply → Bool
matches_reply word.Yes reply.Applied = true
matches_reply word.No (reply.NotMet found) = true
matches_reply word.No (reply.NotAll place found) = true
matches_reply word.OutOfMemory reply.NoMemory = true
matches_reply word.NoAck (reply.Found found) = true
matches_reply word.NoAck (reply.Rows rows) = true
matches_reply word.NoAck reply.Fault = true
matches_reply _ _ = false

-- one put alone
abbrev pub is_alone : List Put → Bool
is_alone [] = false
is_alone (p ∷ []) = true
is_alone (p ∷ q ∷ ps) = false

abbrev pub one_put : Record → Condition → List Put
one_put r c = record { rec = r; condition = c } ∷ []

-- the puts that a request makes: one alone is never put as a batch
abbrev pub puts_asked : Request → Option (List Put)
puts_asked (ask.Get key) = None
puts_asked (ask.Scan span) = None
puts_asked (ask.PutIf r c) = Some (one_put r c)
puts_asked (ask.DeleteIf key c) = None
puts_asked (ask.PutAll b) = if is_alone b then None else Some b

-- at least one key, and each once
abbrev pub are_some : List Key → Bool
are_some [] = false
are_some (k ∷ ks) = are_distinct (k ∷ ks)

-- a client makes calls of the COMMIT of its transaction
abbrev pub in_commit : List Labelled → ℕ → ℕ → Bool
in_commit past client t = commit_started_in past t && (open_in past t && (owner_of past t == client && not (stopped_in past client)))

---- the rules

abbrev pub begins_well : List Labelled → Event → ℕ → ℕ → Bool
begins_well past (event.Take client text answered) t c = client == c && (reads_begin text && (is_done answered && (not (begun_in past t) && nat_lt t (2 ^ 128))))
begins_well past _ t c = false

abbrev pub commits_well : List Record → List Labelled → List Plan → ℕ → Bool
commits_well rs past plans t = not (commit_started_in past t) && (is_moment (moment_in plans t) && (are_valid_writes rs (writes_in plans t) (writes_in plans t) && list_all (is_valid_item rs) (items_in plans t)))

abbrev pub starts_well : List Record → List Labelled → List Plan → Event → ℕ → Bool
starts_well rs past plans (event.Take client text answered) t = reads_commit text && ((owner_of past t == client && (open_in past t && not (stopped_in past client))) && commits_well rs past plans t)
starts_well rs past plans _ t = false

-- what a transaction prepares for a write
abbrev pub prepared_by : ℕ → ℤ → Option Write → Option Record
prepared_by t now None = None
prepared_by t now (Some w) = if is_sound w then Some (prepared_record w (id t) now) else None

-- a put is of this record, where the base of the write is still there
abbrev pub is_put : Put → Option Write → Option Record → Bool
is_put p None o = false
is_put p (Some w) None = false
is_put p (Some w) (Some r) = same_put p (record { rec = r; condition = condition_of (version_of w.base) })

-- a put prepares a write
abbrev pub puts_write : ℕ → ℤ → Option Write → Put → Bool
puts_write t now o p = is_put p o (prepared_by t now o)

-- puts prepare the writes of keys, one after another
abbrev pub put_writes : ℕ → ℤ → List Write → List Key → List Put → Bool
put_writes t now ws [] [] = true
put_writes t now ws (k ∷ ks) (p ∷ ps) = puts_write t now (write_among ws k) p && put_writes t now ws ks ps
put_writes t now ws _ _ = false

-- no prepare was asked of any of the keys
abbrev pub are_new : List Labelled → ℕ → List Key → Bool
are_new past t ks = list_all (λ k. not (asked_in past t k)) ks

abbrev pub prepares_well : List Labelled → List Plan → Event → ℕ → List Key → Ack → Bool
prepares_well past plans (event.Call client store q how r answered) t ks w = in_commit past client t && (matches_reply w r && ((not (staged_in past t) && are_new past t ks) && (are_some ks && option_map_or (put_writes t (moment_in plans t) (writes_in plans t) ks) (puts_asked q) false)))
prepares_well past plans _ t ks w = false

-- a key is as it was read, or is written
abbrev pub is_as_read : List Write → Scan → List Record → Key → Bool
is_as_read ws scan rows k = not (in_span scan.span k) || (is_some (write_among ws k) || is_unchanged (record_among rows k) (version_among scan.found k))

abbrev pub are_as_read : List Write → Scan → List Record → Bool
are_as_read ws scan rows = list_all (λ r. is_as_read ws scan rows r.key) rows && list_all (λ r. is_as_read ws scan rows r.key) scan.found

abbrev pub finds_read : List Write → ReadItem → Request → Reply → Bool
finds_read ws (item.KeyRead read) (ask.Get key) (reply.Found found) = same_key key read.key && is_unchanged found read.version
finds_read ws (item.SpanRead scan) (ask.Scan span) (reply.Rows rows) = same_span span scan.span && are_as_read ws scan rows
finds_read ws _ _ _ = false

abbrev pub checks_well : List Labelled → List Plan → Event → ℕ → ℕ → Bool
checks_well past plans (event.Call client store q how r answered) t i = in_commit past client t && (not (deciding_in past t) && option_map_or (λ n. finds_read (writes_in plans t) n q r) (slice_get (items_in plans t) i) false)
checks_well past plans _ t i = false

abbrev pub same_read : Option (Option TxId) → Option TxId → Bool
same_read None base = true
same_read (Some version) base = same_version version base

-- the base of a key that is written is what was read of it
abbrev pub agrees_at : List Write → ReadItem → Write → Bool
agrees_at ws n w = option_map_or (λ x. same_read (version_read (item_of n) w.key) (version_of x.base)) (write_among ws w.key) true

abbrev pub agrees : List Write → ReadItem → Bool
agrees ws n = list_all (agrees_at ws n) ws

abbrev pub is_item_checked : List Labelled → ℕ → List Write → ℕ → ReadItem → Bool
is_item_checked past t ws i (item.KeyRead read) = is_some (write_among ws read.key) || checked_in past t i
is_item_checked past t ws i (item.SpanRead scan) = checked_in past t i

abbrev pub is_ready : List Labelled → ℕ → List Write → List ReadItem → Bool
is_ready past t ws ns = list_all (λ w. acknowledged_in past t w.key) ws && (list_all (agrees ws) ns && list_all (λ e. is_item_checked past t ws e.0 e.1) (enumerate_from 0 ns))

abbrev pub decides_well : List Labelled → List Plan → Event → ℕ → Ack → Bool
decides_well past plans (event.Call client store q how r answered) t w = in_commit past client t && (matches_reply w r && (same_request q (ask.PutIf (coordinator_row_of (id t) decision.Committed (moment_in plans t)) condition.Absent) && is_ready past t (writes_in plans t) (items_in plans t)))
decides_well past plans _ t w = false

abbrev pub aborts_well : Event → ℕ → ℤ → Ack → Bool
aborts_well (event.Call client store q how r answered) t moment w = matches_reply w r && (is_moment moment && (nat_lt t (2 ^ 128) && same_request q (ask.PutIf (coordinator_row_of (id t) decision.Aborted moment) condition.Absent)))
aborts_well _ t moment w = false

abbrev pub is_known_committed : List Record → List Labelled → ℕ → Bool
is_known_committed rs past t = won_in past t || observes_commit rs (coordinator_key_of (id t))

abbrev pub is_known_aborted : List Record → List Labelled → ℕ → Bool
is_known_aborted rs past t = (dead_in past t || (met_in past t && not (risked_in past t))) || observes_abort rs (coordinator_key_of (id t))

-- what it has prepared itself at a key
abbrev pub own : List Labelled → List Plan → ℕ → Key → Option Record
own past plans t k = if asked_in past t k then prepared_by t (moment_in plans t) (write_among (writes_in plans t) k) else None

abbrev pub with_own : Bool → ℤ → List ℤ → List ℤ
with_own true moment ms = ms ++ moment ∷ []
with_own false moment ms = ms

-- its own moment is one of them: it won, or its COMMIT was accepted and its row was observed
unfoldable pub has_own_moment : List Record → List Labelled → ℕ → Bool
has_own_moment rs past t = won_in past t || (commit_started_in past t && observes_commit rs (coordinator_key_of (id t)))

-- the moments at which it is known to be committed
abbrev pub known_moments : List Record → List Labelled → List Plan → ℕ → List ℤ
known_moments rs past plans t = with_own (has_own_moment rs past t) (moment_in plans t) (moments rs (coordinator_key_of (id t)))

abbrev pub any_prepared_forward : List Record → ℤ → ℕ → Key → Record → Bool
any_prepared_forward rs m t k target = list_any (λ r. is_prepared_by t k r && is_forward_at r m target) rs

abbrev pub is_rolled_forward : List Record → Option Record → ℤ → ℕ → Key → Record → Bool
is_rolled_forward rs o m t k target = option_map_or (λ r. is_forward_at r m target) o false || any_prepared_forward rs m t k target

abbrev pub rolls_open : Condition → ℕ → Bool
rolls_open condition.Absent t = false
rolls_open (condition.Version i s) t = i.0 == t && not (is_committed s)

-- a put rolls forward, to a moment, what a transaction prepared at a key
abbrev pub rolls_at : List Record → List Labelled → List Plan → ℕ → ℤ → Key → Put → Bool
rolls_at rs past plans t m k p = rolls_open p.condition t && (is_data k && is_rolled_forward rs (own past plans t k) m t k p.rec)

-- puts roll forward what it prepared at keys, one after another
abbrev pub roll_each : List Record → List Labelled → List Plan → ℕ → ℤ → List Key → List Put → Bool
roll_each rs past plans t m [] [] = true
roll_each rs past plans t m (k ∷ ks) (p ∷ ps) = rolls_at rs past plans t m k p && roll_each rs past plans t m ks ps
roll_each rs past plans t m _ _ = false

-- to one moment at which it is known to be committed
abbrev pub roll_together : List Record → List Labelled → List Plan → ℕ → List Key → List Put → Bool
roll_together rs past plans t ks ps = list_any (λ m. roll_each rs past plans t m ks ps) (known_moments rs past plans t)

abbrev pub rolls_forward : List Record → List Labelled → List Plan → Event → ℕ → List Key → Bool
rolls_forward rs past plans (event.Call client store q how r answered) t ks = are_some ks && option_map_or (roll_together rs past plans t ks) (puts_asked q) false
rolls_forward rs past plans _ t ks = false

-- a record keeps this one as its before image, or keeps none
abbrev pub has_before_or_none : Option Record → Record → Bool
has_before_or_none (Some base) r = is_before_image_of r base
has_before_or_none None r = has_no_before r

abbrev pub is_back : List Record → Option Record → ℕ → Key → Option Record → Bool
is_back rs o t k base = option_map_or (has_before_or_none base) o false || list_any (λ r. is_prepared_by t k r && has_before_or_none base r) rs

abbrev pub is_put_back : List Record → Option Record → ℕ → Key → Record → Bool
is_put_back rs o t k base = is_back rs o t k (Some base)

abbrev pub is_rolled_back : List Record → Option Record → ℕ → Key → Bool
is_rolled_back rs o t k = is_back rs o t k None

abbrev pub undoes : List Record → Option Record → Request → ℕ → Key → Bool
undoes rs o (ask.PutIf base c) t k = rolls_open c t && is_put_back rs o t k base
undoes rs o (ask.DeleteIf key c) t k = rolls_open c t && (same_key key k && is_rolled_back rs o t k)
undoes rs o (ask.PutAll batch) t k = false
undoes rs o (ask.Get key) t k = false
undoes rs o (ask.Scan span) t k = false

abbrev pub rolls_back : List Record → List Labelled → List Plan → Event → ℕ → Key → Bool
rolls_back rs past plans (event.Call client store q how r answered) t k = is_data k && (is_known_aborted rs past t && undoes rs (own past plans t k) q t k)
rolls_back rs past plans _ t k = false

-- of a list of one key
abbrev pub of_one_key : List Key → (Key → Bool) → Bool
of_one_key [] f = false
of_one_key (k ∷ []) f = f k
of_one_key (k ∷ l ∷ ks) f = false

-- one request rolls any number of records forward, and one back
abbrev pub rolls_well : List Record → List Labelled → List Plan → Event → ℕ → List Key → Decision → Bool
rolls_well rs past plans e t ks decision.Committed = rolls_forward rs past plans e t ks
rolls_well rs past plans e t ks decision.Aborted = of_one_key ks (rolls_back rs past plans e t)

-- a transaction is not open, or its client has stopped
unfoldable pub is_left : List Labelled → ℕ → Bool
is_left past t = not (open_in past t) || stopped_in past (owner_of past t)

-- no transaction that begins here is open of a client that hasn't stopped
abbrev pub is_shut : List Labelled → Action → Bool
is_shut past (action.Begins t c) = is_left past t.0
is_shut past _ = true

abbrev pub are_shut : List Labelled → Bool
are_shut past = list_all (λ p. is_shut past p.action) past

abbrev pub removes_version : Condition → ℕ → Bool
removes_version condition.Absent t = false
removes_version (condition.Version i s) t = i.0 == t && is_committed s

abbrev pub removes_well : List Record → List Labelled → Event → Key → ℕ → Bool
removes_well rs past (event.Call client store (ask.DeleteIf key c) how r answered) k t = same_key key k && (removes_version c t && (is_data k && (are_shut past && settles_removed rs k t)))
removes_well rs past _ k t = false

abbrev pub stops_well : Event → ℕ → Bool
stops_well (event.Stop client) c = client == c
stops_well _ c = false

-- An event other than a landing may occur with this action after the events so far, of which the replies showed these records.
abbrev pub acts_well : List Record → List Labelled → List Plan → Event → Action → Bool
acts_well rs past plans e action.Other = is_quiet e
acts_well rs past plans e (action.Begins t c) = begins_well past e t.0 c
acts_well rs past plans e (action.Takes t) = starts_well rs past plans e t.0
acts_well rs past plans e (action.Prepares t ks w) = prepares_well past plans e t.0 ks w
acts_well rs past plans e (action.Checks t i) = checks_well past plans e t.0 i
acts_well rs past plans e (action.Decides t w) = decides_well past plans e t.0 w
acts_well rs past plans e (action.Aborts t moment w) = aborts_well e t.0 moment w
acts_well rs past plans e (action.Rolls t ks d) = rolls_well rs past plans e t.0 ks d
acts_well rs past plans e (action.Removes k t) = removes_well rs past e k t.0
acts_well rs past plans e (action.Ends t) = false
acts_well rs past plans e (action.Stops c) = stops_well e c

---- requests that take effect late

unfoldable pub same_action : Action → Action → Bool
same_action a b = (action_eq.ghosts).eq a b

-- an event is a call of this request that was delayed
abbrev pub delays : Request → Event → Bool
delays q (event.Call client store asked Delayed reply.Fault answered) = same_request asked q
delays q _ = false

-- A call of this request was delayed, with this action.
abbrev pub was_delayed : List Labelled → Request → Action → Bool
was_delayed past q a = list_any (λ p. delays q p.event && same_action p.action a) past

-- An event may occur with this action: a landing where a call of its request was delayed with it.
abbrev pub occurs_well : List Record → List Labelled → List Plan → Event → Action → Bool
occurs_well rs past plans (event.Land number store q how r) a = was_delayed past q a
occurs_well rs past plans e a = acts_well rs past plans e a

---- answers

abbrev pub denies : Option Answer → Bool
denies o = option_map_or is_denial o false

-- `whole` is the past with this event
abbrev pub may_answer : List Record → List Labelled → List Labelled → Option TxId → Bool
may_answer rs whole past None = false
may_answer rs whole past (Some t) = commit_started_in past t.0 && is_known_committed rs whole t.0

abbrev pub may_deny : List Record → List Labelled → List Labelled → Option TxId → Bool
may_deny rs whole past None = true
may_deny rs whole past (Some t) = not (commit_started_in past t.0) || (is_known_aborted rs whole t.0 || (not (risked_in whole t.0) || observes_bad_row rs (coordinator_key_of (id t.0))))

abbrev pub answers_well : List Record → List Labelled → List Labelled → Labelled → Bool
answers_well rs whole past p = (not (is_committed_answer (answer_of p.event)) || may_answer rs whole past p.ends) && (not (denies (answer_of p.event)) || may_deny rs whole past p.ends)

-- an event occurs well after those before it, and its answer is one that may be given after the whole list
abbrev pub follows_well : List Plan → List Labelled → List Labelled → Labelled → Bool
follows_well plans whole past p = occurs_well (observed past) past plans p.event p.action && answers_well (observed whole) whole past p

-- The whole list obeys the rules.
abbrev pub obeys_rules : List Plan → List Labelled → Bool
obeys_rules plans [] = true
obeys_rules plans (p ∷ past) = obeys_rules plans past && follows_well plans (p ∷ past) past p
