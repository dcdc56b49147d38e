-- A run whose tables lie on one store, and the same run with its tables spread over several.
use Rattle.std.specs.Prelude.{◌≡◌, ◌≢◌, true, List, [], ◌∷◌, map, IsSome}
use Rattle.std.specs.List.{AllByRecursion}
use Rattle.law_protocol.specs.Types.{Event, Key, Outcome, Place, Reply, Request, Script, Table}
use Rattle.sdb_types.specs.Contents.{Contents, record_at}
use Rattle.sdb_types.specs.declared.record.Reply.TheVariants.{NoMemory}
use Rattle.sdb_model.specs.declared.event.Event.TheVariants as event
use Rattle.sdb_model.specs.declared.event.How.TheVariants.{Seen}
use Rattle.sdb_model.specs.Rows.{Name}
use Rattle.sdb_model.specs.Events.{StoreContents, IsCall, IsTrace, contents_under, store_of, stored_at, table_asked}
use Rattle.sdb_model.specs.Serial.{IsRun}
use Rattle.sdb_model.specs.Tables.{is_table_of_run}

-- one store, and nothing else
abbrev pub one_store : Name → Contents → List StoreContents
one_store name held = record { name = name; contents = held } ∷ []

-- an event, with its call made, or its request landing, on the store that is given for its table's namespace
abbrev pub relocated_event : (Name → Name) → Event → Event
relocated_event at (event.Take client text answer) = event.Take client text answer
relocated_event at (event.Call client store q how r answer) = event.Call client (at (table_asked q).ns) q how r answer
relocated_event at (event.Stop client) = event.Stop client
relocated_event at (event.Clock moment) = event.Clock moment
relocated_event at (event.Idle client) = event.Idle client
relocated_event at (event.Land number store q how r) = event.Land number (at (table_asked q).ns) q how r
relocated_event at (event.Alter table column kind altered) = event.Alter table column kind altered

abbrev pub relocated_events : (Name → Name) → List Event → List Event
relocated_events at = map (relocated_event at)

-- an outcome, with its calls so moved
abbrev pub relocated_outcome : (Name → Name) → Outcome → Outcome
relocated_outcome at o = record { events = relocated_events at o.events; order = o.order; tables = o.tables }

-- a call or a landing is about one of them
abbrev pub IsAbout : List Table → Event → Type 0
IsAbout catalog (event.Call client store q how r answer) = is_table_of_run catalog (table_asked q) ≡ true
IsAbout catalog (event.Land number store q how r) = is_table_of_run catalog (table_asked q) ≡ true
IsAbout catalog _ = Unit {0}

abbrev pub AreAbout : List Table → List Event → Type 0
AreAbout catalog events = AllByRecursion (IsAbout catalog) events

-- At each key of these tables the stores hold what the one store does.
pub record HoldAs (catalog : List Table) (places : List Place) (store_contents : List StoreContents) (held : Contents) : Type 0 where
  pub at : (key : Key) → is_table_of_run catalog key.table ≡ true → stored_at places store_contents key ≡ record_at held key

-- Each namespace has a store that is attached.
abbrev pub HaveStores : List Place → List StoreContents → Type 0
HaveStores places store_contents = (ns : Name) → IsSome (contents_under store_contents (store_of places store_contents ns))

---- one store, and several that hold the same

-- A run on one store, and a trace of its relocated events on several stores, which hold in the end what the one store does.
pub record RelocatedRun : Type 0 where
  pub script : Script
  pub name : Name
  pub held_before : Contents
  pub held_after : Contents
  pub outcome : Outcome
  pub no_places : script.places ≡ []
  pub run : IsRun script (one_store name held_before) (one_store name held_after) outcome
  pub places : List Place
  pub at : Name → Name
  pub opening : List StoreContents
  pub closing : List StoreContents
  pub moments : List (List StoreContents)
  pub trace : IsTrace places (relocated_events at outcome.events) opening moments closing
  pub same : HoldAs script.catalog places closing held_after

-- A trace of events on one store, and several stores that hold the same to begin with.
pub record TraceOnOne : Type 0 where
  pub catalog : List Table
  pub name : Name
  pub held_before : Contents
  pub held_after : Contents
  pub events : List Event
  pub singles : List (List StoreContents)
  pub trace : IsTrace [] events (one_store name held_before) singles (one_store name held_after)
  pub about : AreAbout catalog events
  pub places : List Place
  pub opening : List StoreContents
  pub shelved : HaveStores places opening
  pub same : HoldAs catalog places opening held_before

-- The several stores have a trace of its relocated events, and hold the same in the end.
pub record HasTraceOnMany (t : TraceOnOne) : Type 0 where
  pub moments : List (List StoreContents)
  pub closing : List StoreContents
  pub trace : IsTrace t.places (relocated_events (store_of t.places t.opening) t.events) t.opening moments closing
  pub same : HoldAs t.catalog t.places closing t.held_after

-- A trace of events on several stores, and contents that are the same to begin with.
pub record TraceOnMany : Type 0 where
  pub catalog : List Table
  pub places : List Place
  pub events : List Event
  pub opening : List StoreContents
  pub moments : List (List StoreContents)
  pub closing : List StoreContents
  pub trace : IsTrace places events opening moments closing
  pub about : AreAbout catalog events
  pub held : Contents
  pub same : HoldAs catalog places opening held

-- One store with these contents has a trace of its relocated events, and holds the same in the end.
pub record HasTraceOnOne (t : TraceOnMany) (name : Name) : Type 0 where
  pub singles : List (List StoreContents)
  pub last : Contents
  pub traced : IsTrace [] (relocated_events (λ ns. name) t.events) (one_store name t.held) singles (one_store name last)
  pub same : HoldAs t.catalog t.places t.closing last

-- A call on one of several stores was seen, and found memory, and these held the same as the one store.
pub record CallOnMany : Type 0 where
  pub catalog : List Table
  pub places : List Place
  pub store : Name
  pub request : Request
  pub reply : Reply
  pub before : List StoreContents
  pub now : List StoreContents
  pub call : IsCall places store request Seen reply before now
  pub memory : reply ≢ NoMemory
  pub of_table : is_table_of_run catalog (table_asked request) ≡ true
  pub held : Contents
  pub same : HoldAs catalog places before held
