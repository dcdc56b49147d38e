-- What a request asks to change, and a step of the stores as the list of the keys that it changed.
use Rattle.std.specs.Prelude.{◌≡◌, Bool, true, false, List, [], ◌∷◌, map, Option, Some, None}
use Rattle.std.specs.List.{AllByRecursion}
use Rattle.std.specs.Option.{option_map_or}
use Rattle.law_protocol.specs.Types.{Condition, Event, Key, Place, Record, Request}
use Rattle.sdb_types.specs.declared.record.Put.{Put}
use Rattle.sdb_types.specs.declared.record.Request.TheVariants as ask
use Rattle.sdb_types.specs.Contents.{holds}
use Rattle.sdb_model.specs.Events.{Contact, StoreContents, contact_of, stored_at}
use Rattle.law_protocol.specs.History.{has_key}

-- what a request would leave at a key, where its condition holds there
pub record Change : Type 0 where
  pub key : Key
  pub left : Option Record
  pub condition : Condition

-- what a put asks to change
abbrev pub change_of : Put → Change
change_of p = record { key = p.rec.key; left = Some p.rec; condition = p.condition }

-- what a request asks to change
abbrev pub changes_of : Request → List Change
changes_of (ask.Get key) = []
changes_of (ask.Scan span) = []
changes_of (ask.PutIf r c) = record { key = r.key; left = Some r; condition = c } ∷ []
changes_of (ask.DeleteIf key c) = record { key = key; left = None; condition = c } ∷ []
changes_of (ask.PutAll b) = map change_of b

-- what an event asks a store to change
abbrev pub changes_in : Event → List Change
changes_in e = option_map_or (λ (c : Contact). changes_of c.request) (contact_of e) []

abbrev pub keys_of : List Change → List Key
keys_of cs = map (λ (c : Change). c.key) cs

-- no change meets its own condition
abbrev pub AreSelfless : List Change → Type 0
AreSelfless cs = AllByRecursion (λ (c : Change). holds c.condition c.left ≡ false) cs

-- It changed each key of them, whose conditions held, or none; and no other key.
pub record Changed (places : List Place) (cs : List Change) (before now : List StoreContents) (done : Bool) : Type 0 where
  pub held : done ≡ true → AllByRecursion (λ (c : Change). holds c.condition (stored_at places before c.key) ≡ true) cs
  pub left : done ≡ true → AllByRecursion (λ (c : Change). stored_at places now c.key ≡ c.left) cs
  pub kept : done ≡ false → (k : Key) → stored_at places now k ≡ stored_at places before k
  pub others : (k : Key) → has_key (keys_of cs) k ≡ false → stored_at places now k ≡ stored_at places before k
