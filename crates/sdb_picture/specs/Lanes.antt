-- The lanes of a picture: a client, a store or a record each, in the order in which their first events come.
use Rattle.std.specs.Prelude.{ℕ, Bool, ◌==◌, ◌&&◌, if◌then◌else◌, List, [], ◌∷◌, ◌++◌, fold, position, is_some, unwrap_or}
use Rattle.sdb_types.specs.Order.{same_key}
use Rattle.sdb_types.specs.declared.record.Request.TheVariants as ask
use Rattle.sdb_picture.specs.Types.{Event, Key, Record, Request}
use Rattle.sdb_model.specs.Rows.{Name, same_name}
use Rattle.sdb_model.specs.declared.event.Event.TheVariants as event
use Rattle.sdb_picture.specs.declared.lanes.Lanes.{Lanes}
use Rattle.sdb_picture.specs.declared.lanes.Place.{Place}
use Rattle.sdb_picture.specs.declared.effect.Effect.{Effect}
use Rattle.sdb_picture.specs.Effects.{effect_of, is_decision, may_change}

---- clients

abbrev pub with_client : List ℕ → ℕ → List ℕ
with_client clients client = if is_some (position (λ c. c == client) clients) then clients else clients ++ client ∷ []

-- The client of an event, after those of the events before, unless it is among them. No client is 0, and none lands a request.
abbrev pub with_client_of : List ℕ → Event → List ℕ
with_client_of clients (event.Take client text given) = with_client clients client
with_client_of clients (event.Call client store request how reply given) = with_client clients client
with_client_of clients (event.Stop client) = with_client clients client
with_client_of clients (event.Clock moment) = clients
with_client_of clients (event.Idle client) = if client == 0 then clients else with_client clients client
with_client_of clients (event.Land number store request how reply) = clients
with_client_of clients (event.Alter table column kind altered) = clients

abbrev pub clients_of : List Event → List ℕ
clients_of events = fold with_client_of [] events

---- stores

abbrev pub with_store : List Name → Name → List Name
with_store stores store = if is_some (position (λ s. same_name s store) stores) then stores else stores ++ store ∷ []

abbrev pub with_store_of : List Name → Event → List Name
with_store_of stores (event.Take client text given) = stores
with_store_of stores (event.Call client store request how reply given) = with_store stores store
with_store_of stores (event.Stop client) = stores
with_store_of stores (event.Clock moment) = stores
with_store_of stores (event.Idle client) = stores
with_store_of stores (event.Land number store request how reply) = with_store stores store
with_store_of stores (event.Alter table column kind altered) = stores

abbrev pub stores_of : List Event → List Name
stores_of events = fold with_store_of [] events

---- records

abbrev pub is_at : Name → Key → Place → Bool
is_at store key place = same_name place.store store && same_key place.key key

abbrev pub with_record : List Place → Name → Record → List Place
with_record records store r =
    if is_some (position (is_at store r.key) records) then records else records ++ record { store = store; key = r.key } ∷ []

-- with a record that is put, unless it is a coordinator's row
abbrev pub with_put : Name → List Place → Record → List Place
with_put store records r = if is_decision r then records else with_record records store r

-- with each record that a request puts
abbrev pub with_puts : List Place → Name → Request → List Place
with_puts records store (ask.Get key) = records
with_puts records store (ask.Scan span) = records
with_puts records store (ask.PutIf r condition) = with_put store records r
with_puts records store (ask.DeleteIf key condition) = records
with_puts records store (ask.PutAll b) = fold (λ places p. with_put store places p.rec) records b

-- The records whose bands may begin at a call: those that it put, or may have put, and that aren't coordinator's rows.
abbrev pub with_begun : List Place → Name → Request → Effect → List Place
with_begun records store request effect = if may_change effect then with_puts records store request else records

-- the records that an event puts, or may have put, by its reply
abbrev pub with_record_of : List Place → Event → List Place
with_record_of records (event.Take client text given) = records
with_record_of records (event.Call client store request how reply given) =
    with_begun records store request (effect_of how reply)
with_record_of records (event.Stop client) = records
with_record_of records (event.Clock moment) = records
with_record_of records (event.Idle client) = records
with_record_of records (event.Land number store request how reply) =
    with_begun records store request (effect_of how reply)
with_record_of records (event.Alter table column kind altered) = records

abbrev pub records_of : List Event → List Place
records_of events = fold with_record_of [] events

---- lanes

-- Each client of an event, each store of a call or a landing, and each record that a put may have left has one lane.
abbrev pub lanes_of : List Event → Lanes
lanes_of events = record { clients = clients_of events; stores = stores_of events; records = records_of events }

abbrev pub client_lane : Lanes → ℕ → ℕ
client_lane lanes client = unwrap_or (position (λ c. c == client) lanes.clients) 0

abbrev pub store_lane : Lanes → Name → ℕ
store_lane lanes store = unwrap_or (position (λ s. same_name s store) lanes.stores) 0

abbrev pub record_lane : Lanes → Name → Key → ℕ
record_lane lanes store key = unwrap_or (position (is_at store key) lanes.records) 0
