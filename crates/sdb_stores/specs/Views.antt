-- Stores by name, as their callers see them.
use Rattle.std.specs.Prelude.{◌≡◌, ◌≢◌, ◌⊎◌, ◌<◌, ◌≤◌, ◌+◌, ◌-◌, ◌^◌, ◌++◌, ◌∷◌, [], ℕ, not, List, map, filter, find, position, sum_by, Any, Option, Some, None, unwrap_or, length, slice_get, slice_set, remove, IsSome, IsSomeAnd}
use Rattle.std.specs.List.{AllPairs}
use Rattle.std.specs.Option.{option_map}
use Rattle.std.specs.Str.{bytes_eq}
use Rattle.sdb_types.specs.declared.key.TableName.{TableName}
use Rattle.sdb_types.specs.declared.record.Request.{Request}
use Rattle.sdb_types.specs.declared.record.Request.TheVariants as ask
use Rattle.sdb_types.specs.declared.record.Reply.{Reply}
use Rattle.sdb_types.specs.declared.record.Reply.TheVariants as reply
use Rattle.sdb_types.specs.Contents.{Contents, CanAnswer, IsWellFormed, table_of_puts}
use Rattle.sdb_types.specs.Draws.{counted as next_number}
use Rattle.sdb_store.specs.Store.{StoreState, Performs, faults_after}
use Rattle.sdb_types.specs.declared.place.Place.{Place}

-- a store: its name, what it holds where that is known, how many of its calls have failed, and how many were made
pub record StoreView : Type 0 where
  pub name : List ℕ
  pub contents : Contents
  pub faults : ℕ
  pub calls : ℕ

-- a store of that name that shows this
abbrev pub view_of : List ℕ → StoreState → StoreView
view_of name store = record { name = name; contents = store.contents; faults = store.faults; calls = store.calls }

-- what a registry shows: the namespaces that have a place, the stores in the order in which they were attached, and which of them, by
-- their indices, have known contents
pub record Attached : Type 1 where
  pub places : List Place
  pub views : List StoreView
  pub known : ℕ → Type 0

-- stores in slots, each of which has a name and shows what its store does
abbrev pub attached_as : {A : Type 0} → (A → List ℕ) → (A → StoreState) → List Place → List A → Attached
attached_as name see places slots = record {
  places = places;
  views = map (λ s. view_of (name s) (see s)) slots;
  known = λ i. IsSomeAnd (slice_get slots i) (λ s. (see s).known);
}

abbrev pub names_of : List StoreView → List (List ℕ)
names_of store_contents = map (λ s. s.name) store_contents

-- no name comes twice
abbrev pub AreDistinct : List (List ℕ) → Type 0
AreDistinct names = AllPairs ◌≢◌ names

-- where a name is
abbrev pub place_of : List ℕ → List (List ℕ) → Option ℕ
place_of name names = position (λ n. bytes_eq n name) names

-- the index of the store of that name
abbrev pub index_in : Attached → List ℕ → Option ℕ
index_in stores name = place_of name (names_of stores.views)

-- the name of the store that a namespace is placed on
abbrev pub route_of : List ℕ → List Place → Option (List ℕ)
route_of ns places = option_map (λ p. p.store) (find (λ p. bytes_eq p.ns ns) places)

abbrev pub home_of : Option (List ℕ) → List (List ℕ) → ℕ
home_of None names = 0
home_of (Some store) names = unwrap_or (place_of store names) 0

-- where the store of a namespace is: the one that it is placed on, and otherwise the first
abbrev pub home : List ℕ → List Place → List (List ℕ) → ℕ
home ns places names = home_of (route_of ns places) names

-- the index of the store of a namespace
abbrev pub home_in : Attached → List ℕ → ℕ
home_in stores ns = home ns stores.places (names_of stores.views)

-- where the store of that name is, among stores of which one has it
abbrev pub index_at : Attached → List ℕ → ℕ
index_at stores name = unwrap_or (index_in stores name) 0

-- the places that name another store
abbrev pub places_without : List ℕ → List Place → List Place
places_without store places = filter (λ p. not (bytes_eq p.store store)) places

-- The store of that name is attached, and the namespace has a place.
abbrev pub IsRoutedAlready : List ℕ → List ℕ → Attached → Type 0
IsRoutedAlready ns store stores = IsSome (index_in stores store) × IsSome (route_of ns stores.places)

-- the table that a request is about
abbrev pub table_of : Request → TableName
table_of (ask.Get key) = key.table
table_of (ask.Scan span) = span.table
table_of (ask.PutIf r condition) = r.key.table
table_of (ask.DeleteIf key condition) = key.table
table_of (ask.PutAll b) = table_of_puts b

-- One call of a well-formed request on the store at that place, which counts it as one, and as one failure exactly where the reply is a fault. Every other
-- store stays as it was, and known contents stay known.
pub record IsCallAt (at : ℕ) (q : Request) (r : Reply) (old new : Attached) : Type 0 where
  pub formed : IsWellFormed q
  pub before : StoreView
  pub now : StoreView
  pub stood : slice_get old.views at ≡ Some before
  pub rest : new.views ≡ slice_set old.views at now
  pub name : now.name ≡ before.name
  pub performed : old.known at → Performs q r before.contents now.contents
  pub lawful : CanAnswer q r
  pub counted : now.calls ≡ next_number before.calls
  pub cause : now.faults ≡ faults_after r before.faults
  pub where_known : (i : ℕ) → old.known i → new.known i

-- the failures of all stores together
abbrev pub total_faults : List StoreView → ℕ
total_faults store_contents = sum_by (λ s. s.faults) store_contents

-- These are the places. The stores are as they were, and known contents stay known.
pub record HavePlaces (left : List Place) (old new : Attached) : Type 0 where
  pub places : new.places ≡ left
  pub views : new.views ≡ old.views
  pub where_known : (i : ℕ) → old.known i → new.known i

-- The stores and their places are as they were.
abbrev pub AreUnchanged : Attached → Attached → Type 0
AreUnchanged old new = HavePlaces old.places old new

-- A store was added after the others, and known contents stay known. The places are as they were.
pub record IsAdded (name : List ℕ) (store : StoreState) (old new : Attached) : Type 0 where
  pub views : new.views ≡ old.views ++ view_of name store ∷ []
  pub places : new.places ≡ old.places
  pub others : (i : ℕ) → old.known i → new.known i
  pub where_known : store.known → new.known (length old.views)
  pub counted : total_faults new.views ≡ total_faults old.views + store.faults

-- The store of that name was accepted out, as this one, with the places that name it. The others stay in their order, and
-- known contents stay known.
pub record IsTakenOut (name : List ℕ) (store : StoreState) (old new : Attached) : Type 0 where
  pub at : ℕ
  pub found : place_of name (names_of old.views) ≡ Some at
  pub accepted : slice_get old.views at ≡ Some (view_of name store)
  pub rest : new.views ≡ remove old.views at
  pub places : new.places ≡ places_without name old.places
  pub where_known : old.known at → store.known
  pub before : (i : ℕ) → i < at → old.known i → new.known i
  pub after : (i : ℕ) → at ≤ i → old.known (i + 1) → new.known i
  pub counted : total_faults new.views + store.faults ≡ total_faults old.views

-- The store of that name was dropped, with the places that name it. The others stay in their order, and known contents stay known.
pub record IsDropped (name : List ℕ) (old new : Attached) : Type 0 where
  pub at : ℕ
  pub found : place_of name (names_of old.views) ≡ Some at
  pub rest : new.views ≡ remove old.views at
  pub places : new.places ≡ places_without name old.places
  pub before : (i : ℕ) → i < at → old.known i → new.known i
  pub after : (i : ℕ) → at ≤ i → old.known (i + 1) → new.known i

-- The count of all stores rose, or that of one of them is the greatest value of its type.
abbrev pub HaveRisen : List StoreView → List StoreView → Type 0
HaveRisen old new = (total_faults old < total_faults new) ⊎ Any (λ s. 2 ^ 64 - 1 ≤ s.faults) new

-- no call failed
abbrev pub AreSound : List StoreView → List StoreView → Type 0
AreSound old new = total_faults new ≡ total_faults old

-- The count of all stores rises where a call fails, and stays where it has another answer.
abbrev pub HaveCause : Reply → List StoreView → List StoreView → Type 0
HaveCause reply.Fault old new = HaveRisen old new
HaveCause reply.NoMemory old new = AreSound old new
HaveCause (reply.Found found) old new = AreSound old new
HaveCause (reply.Rows rows) old new = AreSound old new
HaveCause reply.Applied old new = AreSound old new
HaveCause (reply.NotMet found) old new = AreSound old new
HaveCause (reply.NotAll k found) old new = AreSound old new
