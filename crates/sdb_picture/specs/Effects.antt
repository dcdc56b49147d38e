-- What calls and landings do to records, as far as a report says it.
use Rattle.std.specs.Prelude.{Bool, true, false, not, ◌&&◌, if◌then◌else◌, List, Option, Some, None, find, is_some}
use Rattle.sdb_types.specs.Order.{same_key}
use Rattle.sdb_types.specs.declared.record.Put.{Put}
use Rattle.sdb_picture.specs.Types.{Condition, How, Key, Record, Reply, Request}
use Rattle.sdb_types.specs.declared.record.Condition.TheVariants as condition
use Rattle.sdb_types.specs.declared.record.Reply.TheVariants as reply
use Rattle.sdb_types.specs.declared.record.Request.TheVariants as ask
use Rattle.sdb_types.specs.declared.record.State.TheVariants as state
use Rattle.sdb_record.specs.Coordinator.{is_coordinator_table}
use Rattle.sdb_record.specs.Meta.{id_in, is_in}
use Rattle.sdb_record.specs.Moved.{same_version}
use Rattle.sdb_record.specs.Rolls.{is_tombstone}
use Rattle.sdb_model.specs.Rows.{Name, same_name}
use Rattle.sdb_model.specs.declared.event.How.TheVariants.{Seen, Lost, Discarded, Delayed, Broken}
use Rattle.sdb_picture.specs.declared.effect.Effect.{Effect}
use Rattle.sdb_picture.specs.declared.effect.Effect.TheVariants as effect
use Rattle.sdb_picture.specs.declared.effect.Stage.{Stage}
use Rattle.sdb_picture.specs.declared.effect.Stage.TheVariants as stage
use Rattle.sdb_picture.specs.declared.effect.Verdict.{Verdict}
use Rattle.sdb_picture.specs.declared.effect.Verdict.TheVariants as verdict

---- whether a write took effect

-- Where the store's reply was seen, the effect is that reply's.
abbrev pub effect_seen : Reply → Effect
effect_seen (reply.Found found) = effect.Nothing
effect_seen (reply.Rows rows) = effect.Nothing
effect_seen reply.Applied = effect.Sure
effect_seen (reply.NotMet found) = effect.Nothing
effect_seen (reply.NotAll place found) = effect.Nothing
effect_seen reply.Fault = effect.Nothing
effect_seen reply.NoMemory = effect.Nothing

-- What a reply says by itself. A lost call was made, and a failed one had its whole effect or none: the reply doesn't say whether the
-- condition held. A dropped call was not made, and a delayed one not yet.
abbrev pub effect_of : How → Reply → Effect
effect_of Seen r = effect_seen r
effect_of Lost r = effect.Doubtful
effect_of Discarded r = effect.Nothing
effect_of Delayed r = effect.Nothing
effect_of Broken r = effect.Doubtful

abbrev pub may_change : Effect → Bool
may_change effect.Sure = true
may_change effect.Doubtful = true
may_change effect.Nothing = false

---- records

-- the put of a batch that writes a key
abbrev pub put_of_key : Key → List Put → Option Put
put_of_key key b = find (λ p. same_key p.rec.key key) b

abbrev pub writes : Key → Request → Bool
writes key (ask.Get at) = false
writes key (ask.Scan span) = false
writes key (ask.PutIf r condition) = same_key r.key key
writes key (ask.DeleteIf at condition) = same_key at key
writes key (ask.PutAll b) = is_some (put_of_key key b)

-- a call on a store that writes the record at a key of a store
abbrev pub writes_at : Name → Request → Name → Key → Bool
writes_at at request store key = same_name at store && writes key request

---- what a put leaves

-- A put over a transaction's version writes the record of another one back.
abbrev pub is_back : Condition → Record → Bool
is_back condition.Absent r = false
is_back (condition.Version id state) r = not (same_version (id_in r.columns) (Some id))

abbrev pub stage_of_committed : Record → Condition → Stage
stage_of_committed r condition =
    if is_back condition r then stage.RolledBack
    else if is_tombstone r then stage.Deleted
    else stage.Committed

-- What a put leaves at its key, by the record's `tx_state`.
abbrev pub stage_of : Record → Condition → Stage
stage_of r condition =
    if is_in state.Prepared r.columns then stage.Prepared
    else if is_in state.Deleted r.columns then stage.Deleting
    else if is_in state.Committed r.columns then stage_of_committed r condition
    else stage.Other

abbrev pub verdict_of : Record → Verdict
verdict_of r =
    if is_in state.Committed r.columns then verdict.Committed
    else if is_in state.Aborted r.columns then verdict.Aborted
    else verdict.Other

-- a coordinator's row
abbrev pub is_decision : Record → Bool
is_decision r = is_coordinator_table r.key.table
