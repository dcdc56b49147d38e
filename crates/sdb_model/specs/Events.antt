-- The effect of events on the contents of the stores, and traces: when a list of events agrees with the stores.
use Rattle.std.specs.Prelude.{◌≡◌, ◌⊎◌, ℕ, zero, suc, if◌then◌else◌, List, [], ◌∷◌, map, Option, Some, None, find}
use Rattle.std.specs.Option.{option_map, option_map_or}
use Rattle.sdb_model.specs.Types.{Key, Place, Record, Reply, Request, TableName}
use Rattle.sdb_types.specs.declared.record.Request.TheVariants as ask
use Rattle.sdb_types.specs.declared.record.Reply.TheVariants as reply
use Rattle.sdb_types.specs.Contents.{Contents, IsWellFormed, record_at, apply, after, table_of_puts}
use Rattle.sdb_model.specs.declared.event.Event.{Event}
use Rattle.sdb_model.specs.declared.event.Event.TheVariants as event
use Rattle.sdb_model.specs.declared.event.How.{How}
use Rattle.sdb_model.specs.declared.event.How.TheVariants.{Seen, Lost, Discarded, Delayed, Broken}
use Rattle.sdb_model.specs.Rows.{Name, same_name}

-- What one attached store holds, under the store's name.
pub record StoreContents : Type 0 where
  pub name : Name
  pub contents : Contents

-- what the store of a name holds
abbrev pub contents_under : List StoreContents → Name → Option Contents
contents_under store_contents name = option_map (λ s. s.contents) (find (λ s. same_name s.name name) store_contents)

-- with other contents in the store of a name, and every other store as it was
abbrev pub with_contents : List StoreContents → Name → Contents → List StoreContents
with_contents store_contents name contents = map (λ s. if same_name s.name name then record { name = s.name; contents = contents } else s) store_contents

abbrev pub first_name : List StoreContents → Name
first_name [] = []
first_name (s ∷ ss) = s.name

-- The store of a namespace: the one where it is placed, or else the first that was attached.
abbrev pub store_of : List Place → List StoreContents → Name → Name
store_of places store_contents ns = option_map_or (λ p. p.store) (find (λ p. same_name p.ns ns) places) (first_name store_contents)

-- the record at a key, in the store of the key's table
abbrev pub stored_at : List Place → List StoreContents → Key → Option Record
stored_at places store_contents key = option_map_or (λ m. record_at m key) (contents_under store_contents (store_of places store_contents key.table.ns)) None

abbrev pub table_asked : Request → TableName
table_asked (ask.Get key) = key.table
table_asked (ask.Scan span) = span.table
table_asked (ask.PutIf rec condition) = rec.key.table
table_asked (ask.DeleteIf key condition) = key.table
table_asked (ask.PutAll b) = table_of_puts b

-- What a call does to its store. Seen: the store's reply and its effect, or out of memory and no effect. Lost: the
-- effect, and a fault for the client. Discarded and Delayed: no effect, and a fault. Broken: the store itself failed, with
-- its effect or without.
abbrev pub IsPerformed : Request → How → Reply → Contents → Contents → Type 0
IsPerformed q Seen r before now = (apply q before ≡ (r, now)) ⊎ (r ≡ reply.NoMemory) × (now ≡ before)
IsPerformed q Lost r before now = (r ≡ reply.Fault) × (now ≡ after q before)
IsPerformed q Discarded r before now = (r ≡ reply.Fault) × (now ≡ before)
IsPerformed q Delayed r before now = (r ≡ reply.Fault) × (now ≡ before)
IsPerformed q Broken r before now = (r ≡ reply.Fault) × ((now ≡ before) ⊎ (now ≡ after q before))

-- One call of a well-formed request: it goes to the store of its table, does to it what its request, how and reply say, and leaves every other
-- store as it was.
pub record IsCall (places : List Place) (store : Name) (q : Request) (how : How) (r : Reply) (before now : List StoreContents) : Type 0 where
  pub formed : IsWellFormed q
  pub held : Contents
  pub left : Contents
  pub placed : store ≡ store_of places before (table_asked q).ns
  pub found : contents_under before store ≡ Some held
  pub performed : IsPerformed q how r held left
  pub others : now ≡ with_contents before store left

-- An event's contact with a store: which store, what it asks of it, how that went, and the reply.
pub record Contact : Type 0 where
  pub store : Name
  pub request : Request
  pub how : How
  pub reply : Reply

-- the contact with a store that an event is: only a call and a landing are one
abbrev pub contact_of : Event → Option Contact
contact_of (event.Take client text answer) = None
contact_of (event.Call client store q how r answer) = Some (record { store = store; request = q; how = how; reply = r })
contact_of (event.Stop client) = None
contact_of (event.Clock moment) = None
contact_of (event.Idle client) = None
contact_of (event.Land number store q how r) = Some (record { store = store; request = q; how = how; reply = r })
contact_of (event.Alter table column kind altered) = None

-- The effect of a contact on what the stores hold: without one they hold what they held.
abbrev pub EffectOf : List Place → Option Contact → List StoreContents → List StoreContents → Type 0
EffectOf places None before now = now ≡ before
EffectOf places (Some c) before now = IsCall places c.store c.request c.how c.reply before now

-- the effect of an event: that of its contact
abbrev pub Effect : List Place → Event → List StoreContents → List StoreContents → Type 0
Effect places e before now = EffectOf places (contact_of e) before now

-- A trace: what the stores hold after each event, one moment made from the one before by the event's effect, from the
-- opening to the closing.
abbrev pub IsTrace : List Place → List Event → List StoreContents → List (List StoreContents) → List StoreContents → Type 0
IsTrace places [] opening [] closing = closing ≡ opening
IsTrace places [] opening (m ∷ ms) closing = ⊥
IsTrace places (e ∷ es) opening [] closing = ⊥
IsTrace places (e ∷ es) opening (m ∷ ms) closing = Effect places e opening m × IsTrace places es m ms closing

-- What the stores hold at a moment: moment 0 is the opening, and moment i is after event i.
abbrev pub moment : List StoreContents → List (List StoreContents) → ℕ → List StoreContents
moment opening ms zero = opening
moment opening [] (suc i) = opening
moment opening (m ∷ ms) (suc i) = moment m ms i
