-- What is known of the record at a key of a store, after some events.
use Rattle.std.specs.Prelude.{ℕ, Bool, true, false, not, ◌&&◌, if◌then◌else◌, List, fold, length, position, unwrap_or, Option, Some, None}
use Rattle.std.specs.Option.{option_map, option_map_or}
use Rattle.sdb_types.specs.Contents.{holds}
use Rattle.sdb_picture.specs.Types.{Event, How, Key, Record, Reply, Request}
use Rattle.sdb_types.specs.declared.record.Request.TheVariants as ask
use Rattle.sdb_model.specs.Rows.{Name}
use Rattle.sdb_model.specs.declared.event.Event.TheVariants as event
use Rattle.sdb_model.specs.declared.event.How.TheVariants.{Seen, Lost, Discarded, Delayed, Broken}
use Rattle.sdb_picture.specs.declared.effect.Effect.{Effect}
use Rattle.sdb_picture.specs.declared.effect.Effect.TheVariants as effect
use Rattle.sdb_picture.specs.Effects.{effect_seen, may_change, put_of_key, writes_at}

-- What is at a key, where it is known at all.
pub record Known : Type 0 where
  pub sure : Bool
  pub found : Option Record

abbrev pub known : Bool → Option Record → Known
known sure found = record { sure = sure; found = found }

---- one write

-- the record that a write of a key puts there
abbrev pub put_by : Key → Request → Option Record
put_by key (ask.Get at) = None
put_by key (ask.Scan span) = None
put_by key (ask.PutIf r condition) = Some r
put_by key (ask.DeleteIf at condition) = None
put_by key (ask.PutAll b) = option_map (λ p. p.rec) (put_of_key key b)

-- The condition of a write of a key holds of what is there.
abbrev pub is_met : Key → Request → Option Record → Bool
is_met key (ask.Get at) found = false
is_met key (ask.Scan span) found = false
is_met key (ask.PutIf r condition) found = holds condition found
is_met key (ask.DeleteIf at condition) found = holds condition found
is_met key (ask.PutAll b) found = option_map_or (λ p. holds p.condition found) (put_of_key key b) false

-- a write of more keys than one
abbrev pub is_of_many : Request → Bool
is_of_many (ask.Get at) = false
is_of_many (ask.Scan span) = false
is_of_many (ask.PutIf r condition) = false
is_of_many (ask.DeleteIf at condition) = false
is_of_many (ask.PutAll b) = true

-- A failed write had its whole effect or none, and none where its condition didn't hold.
abbrev pub effect_failed : Bool → Bool → Effect
effect_failed sure met = if sure && not met then effect.Nothing else effect.Doubtful

-- A lost one was made: it took effect exactly where its condition held. A batch has the conditions of its other keys besides.
abbrev pub effect_lost : Bool → Bool → Bool → Effect
effect_lost true sure met = effect_failed sure met
effect_lost false false met = effect.Doubtful
effect_lost false true met = if met then effect.Sure else effect.Nothing

-- Whether a write of a key took effect where this was there. A dropped one was not made, and a delayed one not yet.
abbrev pub effect_in : Key → Known → Request → How → Reply → Effect
effect_in key k request Seen r = effect_seen r
effect_in key k request Lost r = effect_lost (is_of_many request) k.sure (is_met key request k.found)
effect_in key k request Discarded r = effect.Nothing
effect_in key k request Delayed r = effect.Nothing
effect_in key k request Broken r = effect_failed k.sure (is_met key request k.found)

-- what is known after it
abbrev pub after : Key → Known → Request → Effect → Known
after key k request effect.Sure = known true (put_by key request)
after key k request effect.Doubtful = known false None
after key k request effect.Nothing = k

---- events

-- and after a call or a landing on a store, which may write another record
abbrev pub written : Name → Key → Known → Name → Request → How → Reply → Known
written store key k at request how r = if writes_at at request store key then after key k request (effect_in key k request how r) else k

abbrev pub left_by : Name → Key → Known → Event → Known
left_by store key k (event.Take client text given) = k
left_by store key k (event.Call client at request how r given) = written store key k at request how r
left_by store key k (event.Stop client) = k
left_by store key k (event.Clock moment) = k
left_by store key k (event.Idle client) = k
left_by store key k (event.Land number at request how r) = written store key k at request how r
left_by store key k (event.Alter table column kind altered) = k

-- Nothing is there before the first event.
abbrev pub known_after : Name → Key → List Event → Known
known_after store key events = fold (left_by store key) (known true None) events

-- An event changes the record at a key of a store, or may have changed it.
abbrev pub changes : Known → Name → Key → Event → Bool
changes k store key (event.Take client text given) = false
changes k store key (event.Call client at request how r given) =
    writes_at at request store key && may_change (effect_in key k request how r)
changes k store key (event.Stop client) = false
changes k store key (event.Clock moment) = false
changes k store key (event.Idle client) = false
changes k store key (event.Land number at request how r) =
    writes_at at request store key && may_change (effect_in key k request how r)
changes k store key (event.Alter table column kind altered) = false

-- how many events come before the first that changes what is known of a record
abbrev pub next_change : Known → Name → Key → List Event → Option ℕ
next_change k store key rest = position (changes k store key) rest

-- up to that, or to the end
abbrev pub rows_before_change : Known → Name → Key → List Event → ℕ
rows_before_change k store key rest = unwrap_or (next_change k store key rest) (length rest)

---- a write among events

-- Whether a write of a record took effect, by the events before it.
abbrev pub effect_at : List Event → Name → Key → Request → How → Reply → Effect
effect_at past store key request how r = effect_in key (known_after store key past) request how r

-- How many of the events after a write come before the next change of its record.
abbrev pub rows_after : List Event → Name → Key → Request → Effect → List Event → ℕ
rows_after past store key request effect rest = rows_before_change (after key (known_after store key past) request effect) store key rest
