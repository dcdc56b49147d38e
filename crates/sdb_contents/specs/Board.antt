-- The stores that a run uses, and what its calls do to them.
use Rattle.std.specs.Prelude.{◌≡◌, ℕ, ◌<◌, ◌≤◌, ◌-◌, ◌^◌, true, List, length, map, slice_get, Any, Some, IfSome, IsSome, IsSomeAnd}
use Rattle.sdb_contents.specs.Types.{How, Reply, Request, Table, TableName}
use Rattle.sdb_types.specs.declared.record.Reply.TheVariants as reply
use Rattle.sdb_stores.specs.Views.{Attached, StoreView as Counted, AreDistinct, AreUnchanged, HaveRisen, IsCallAt, home_in, names_of, place_of, route_of, total_faults}
use Rattle.sdb_model.specs.declared.event.How.TheVariants.{Seen, Lost, Broken, Discarded, Delayed}
use Rattle.sdb_model.specs.Events.{StoreContents, IsCall, store_of, table_asked}
use Rattle.sdb_contents.specs.declared.refused.CallRefused.{CallRefused}
use Rattle.sdb_contents.specs.declared.refused.CallRefused.TheVariants as refused
use Rattle.sdb_model.specs.Tables.{is_table_of_run}

-- the stores as events see them: without their counts of faults
abbrev pub contents_of_views : List Counted → List StoreContents
contents_of_views store_contents = map (λ s. record { name = s.name; contents = s.contents }) store_contents

-- The store of each table of a run over a catalog has known contents.
abbrev pub AreKnown : List Table → Attached → Type 0
AreKnown catalog stores = (table : TableName) → is_table_of_run catalog table ≡ true → stores.known (home_in stores table.ns)

-- Stores are fit for a run over a catalog: there is one, no two have one name, each place names one of them, and those of the
-- run's tables have known contents.
pub record AreUsable (catalog : List Table) (stores : Attached) : Type 0 where
  pub some : 0 < length stores.views
  pub distinct : AreDistinct (names_of stores.views)
  pub homed : (ns : List ℕ) → IfSome (route_of ns stores.places) (λ store. IsSome (place_of store (names_of stores.views)))
  pub where_known : AreKnown catalog stores

-- Stores are fit for calls on a table: there is one, no two have one name, each place names one of them, and that of the table has known
-- contents.
pub record AreUsableFor (table : TableName) (stores : Attached) : Type 0 where
  pub some : 0 < length stores.views
  pub distinct : AreDistinct (names_of stores.views)
  pub homed : (ns : List ℕ) → IfSome (route_of ns stores.places) (λ store. IsSome (place_of store (names_of stores.views)))
  pub where_known : stores.known (home_in stores table.ns)

-- Stores hold what they held.
abbrev pub HoldTheSame : Attached → Attached → Type 0
HoldTheSame old new = contents_of_views new.views ≡ contents_of_views old.views

-- Each store of known contents holds what it held.
abbrev pub KnownAreUnchanged : Attached → Attached → Type 0
KnownAreUnchanged old new =
    (at : ℕ) (store : Counted) → old.known at → slice_get old.views at ≡ Some store → IsSomeAnd (slice_get new.views at) (λ now. now.contents ≡ store.contents)

-- What stores show later, where those are known that were known before.
abbrev pub known_before : Attached → Attached → Attached
known_before old new = record { places = new.places; views = new.views; known = old.known }

-- The count of some store is the greatest value of its type.
abbrev pub IsFull : List Counted → Type 0
IsFull store_contents = Any (λ s. 2 ^ 64 - 1 ≤ s.faults) store_contents

-- Calls change no name and no place, faults add up, a count at its greatest value stays there, stores that are fit for a run stay so, and
-- known contents stay known.
pub record GoOn (old new : Attached) : Type 0 where
  pub places : new.places ≡ old.places
  pub names : names_of new.views ≡ names_of old.views
  pub counted : total_faults old.views ≤ total_faults new.views
  pub full : IsFull old.views → IsFull new.views
  pub fit : (catalog : List Table) → AreUsable catalog old → AreUsable catalog new
  pub where_known : (at : ℕ) → old.known at → new.known at

-- Why a call stopped a scan: a fault raised the count of the stores.
abbrev pub Refuses : List Counted → List Counted → CallRefused → Type 0
Refuses old new refused.StoreFault = HaveRisen old new
Refuses old new refused.NoMemory = Unit {0}

---- one call, as an event has it

-- a call whose reply is handed on: where that is a fault, the store itself failed
abbrev pub how_seen : Reply → How
how_seen reply.Fault = Broken
how_seen r = Seen

-- a call whose reply is lost, unless the store itself failed or is out of memory
abbrev pub how_lost : Reply → How
how_lost reply.Fault = Broken
how_lost reply.NoMemory = Seen
how_lost r = Lost

-- the reply in place of a lost one
abbrev pub reply_lost : Reply → Reply
reply_lost reply.NoMemory = reply.NoMemory
reply_lost r = reply.Fault

-- a request is made on the store of its table, and so it comes out
abbrev pub IsMade : Request → How → Reply → Attached → Attached → Type 0
IsMade q how r old new = IsCall old.places (store_of old.places (contents_of_views old.views) (table_asked q).ns) q how r (contents_of_views old.views) (contents_of_views new.views)

-- A request that was made on the store of its table.
abbrev pub IsCalled : Request → Reply → Attached → Attached → Type 0
IsCalled q r old new = IsMade q (how_seen r) r old new

---- what the stores were asked

-- One call was made, on the store of the request's table, and it was answered so: each store's count of calls says it.
abbrev pub IsOneCall : Request → Reply → Attached → Attached → Type 0
IsOneCall q r old new = IsCallAt (home_in old (table_asked q).ns) q r old new

-- A request was delivered: by one call whose reply is handed on; by one whose reply is lost, whatever it was; or not at all,
-- or not yet.
abbrev pub IsDelivered : Request → How → Reply → Attached → Attached → Type 0
IsDelivered q Seen r old new = IsOneCall q r old new
IsDelivered q Broken r old new = IsOneCall q r old new
IsDelivered q Lost r old new = (real : Reply) × IsOneCall q real old new
IsDelivered q Discarded r old new = AreUnchanged old new
IsDelivered q Delayed r old new = AreUnchanged old new
