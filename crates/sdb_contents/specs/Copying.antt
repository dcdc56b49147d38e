-- Tables copied from one store to another.
use Rattle.std.specs.Prelude.{◌≡◌, ◌⊎◌, ℕ, Bool, true, false, List, [], ◌∷◌, ◌++◌, map, flat_map, Option, Some, None, IsSome, Any, Contains}
use Rattle.std.specs.List.{AllByRecursion}
use Rattle.std.specs.Option.{option_and_then, option_map}
use Rattle.sdb_contents.specs.Types.{Condition, Key, Record, Reply, Request, TableName}
use Rattle.sdb_types.specs.declared.record.Condition.TheVariants.{Absent, Version}
use Rattle.sdb_types.specs.declared.record.Reply.TheVariants as reply
use Rattle.sdb_types.specs.declared.record.Request.TheVariants as ask
use Rattle.sdb_record.specs.Meta.{id_in, state_in}
use Rattle.sdb_stores.specs.Views.{Attached, StoreView, IsCallAt}
use Rattle.sdb_catalog.specs.Calls.{with_states}
use Rattle.sdb_contents.specs.declared.seen.Seen.{Seen}
use Rattle.sdb_contents.specs.Writes.{Hold, IsScanned, Write}

-- the version that a record is: an id and a state 1 to 3
abbrev pub version_in : Record → Option Condition
version_in r = option_and_then (λ id. option_map (λ s. Version id s) (state_in r.columns)) (id_in r.columns)

abbrev pub delete_on : Key → Option Condition → List Request
delete_on key None = []
delete_on key (Some version) = ask.DeleteIf key version ∷ []

-- the delete of a record, on condition that it is still that version; none where it is none
abbrev pub delete_of : Record → List Request
delete_of r = delete_on r.key (version_in r)

-- the put of a record where there is none
abbrev pub put_of : Record → Request
put_of r = ask.PutIf r Absent

-- what is asked of `to` for one table: it is cleared, and each record of `from` is put
abbrev pub requests_for : Seen → List Request
requests_for s = flat_map delete_of s.in_to ++ map put_of s.in_from

-- what is asked of `to`
abbrev pub requests_of : List Seen → List Request
requests_of seen = flat_map requests_for seen

-- a write of one record
abbrev pub IsOfOne : Request → Type 0
IsOfOne (ask.PutIf r condition) = Unit {0}
IsOfOne (ask.DeleteIf key condition) = Unit {0}
IsOfOne (ask.PutAll b) = ⊥
IsOfOne (ask.Get key) = ⊥
IsOfOne (ask.Scan span) = ⊥

abbrev pub is_put : Request → Bool
is_put (ask.PutIf r condition) = true
is_put (ask.DeleteIf key condition) = false
is_put (ask.PutAll b) = false
is_put (ask.Get key) = false
is_put (ask.Scan span) = false

-- A record of `to` can be deleted, or is one of `from`.
abbrev pub IsFree : List Record → Record → Type 0
IsFree in_from r = IsSome (version_in r) ⊎ Any (λ f. f ≡ r) in_from

abbrev pub AreFree : List Record → List Record → Type 0
AreFree in_from in_to = AllByRecursion (IsFree in_from) in_to

-- The record of this key is the first that can't be deleted and isn't one of `from`: it blocks the copy.
pub record IsFirstBlocking (in_to in_from : List Record) (place : Key) : Type 0 where
  pub passed : List Record
  pub bad : Record
  pub later : List Record
  pub rows : in_to ≡ passed ++ bad ∷ later
  pub free : AreFree in_from passed
  pub blocks : IsFree in_from bad → ⊥
  pub key : bad.key ≡ place

-- The two stores showed these rows of a table, and none of them blocks the copy.
pub record IsSeen (from to : ℕ) (old : Attached) (s : Seen) : Type 0 where
  pub in_to : IsScanned to s.table s.in_to old
  pub in_from : IsScanned from s.table s.in_from old
  pub free : AreFree s.in_from s.in_to

-- The two stores showed rows of a table of which the one of this key blocks the copy.
pub record IsBlocked (from to : ℕ) (old : Attached) (tables : List TableName) (place : Key) : Type 0 where
  pub table : TableName
  pub among : Contains tables table
  pub to_rows : List Record
  pub from_rows : List Record
  pub in_to : IsScanned to table to_rows old
  pub in_from : IsScanned from table from_rows old
  pub blocking : IsFirstBlocking to_rows from_rows place

-- A write that isn't met is passed over where it is a delete, and where it puts a record that is there already.
abbrev pub Passes : Request → Option Record → Type 0
Passes (ask.DeleteIf key condition) found = Unit {0}
Passes (ask.PutIf r Absent) (Some found) = found ≡ r
Passes (ask.PutIf r Absent) None = ⊥
Passes (ask.PutIf r (Version id state)) found = ⊥
Passes (ask.PutAll b) found = ⊥
Passes (ask.Get key) found = ⊥
Passes (ask.Scan span) found = ⊥

-- An answered request is done with: it was met, or is passed over.
abbrev pub IsDone : Request → Reply → Type 0
IsDone q reply.Fault = ⊥
IsDone q reply.NoMemory = ⊥
IsDone q (reply.Found found) = Unit {0}
IsDone q (reply.Rows rows) = Unit {0}
IsDone q reply.Applied = Unit {0}
IsDone q (reply.NotMet found) = Passes q found
IsDone q (reply.NotAll place found) = ⊥

-- A write was made by one call, and is done with.
pub record IsMade (w : Write) (old : Attached) (new : List StoreView) : Type 0 where
  pub answer : Reply
  pub called : IsCallAt w.at w.request answer old (with_states old new)
  pub done : IsDone w.request answer

-- Writes were made, one after the other.
abbrev pub AreMade : List Write → Attached → List StoreView → Type 0
AreMade [] old new = new ≡ old.views
AreMade (w ∷ ws) old new = (mid : List StoreView) × IsMade w old mid × AreMade ws (with_states old mid) new

-- the key that a write is about
abbrev pub key_asked : Request → Option Key
key_asked (ask.DeleteIf key condition) = Some key
key_asked (ask.PutIf r condition) = Some r.key
key_asked (ask.PutAll b) = None
key_asked (ask.Get key) = None
key_asked (ask.Scan span) = None

-- The first of these writes were made, and the next, a put at this key, found another record there.
pub record WasUnmet (writes : List Write) (place : Key) (old : Attached) (new : List StoreView) : Type 0 where
  pub done : List Write
  pub write : Write
  pub later : List Write
  pub parts : writes ≡ done ++ write ∷ later
  pub mid : List StoreView
  pub held : Hold done old (with_states old mid)
  pub found : Option Record
  pub called : IsCallAt write.at write.request (reply.NotMet found) (with_states old mid) (with_states old new)
  pub fails : Passes write.request found → ⊥
  pub key : key_asked write.request ≡ Some place
