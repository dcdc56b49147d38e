-- The stores of the program, and how a call of it on them may end.
use Rattle.std.specs.Prelude.{◌≡◌, ℕ, ℤ, ◌<◌, ◌≤◌, ◌+◌, List, [], ◌∷◌, ◌++◌, length, Option, codes}
use Rattle.std.specs.FinMap.{empty}
use Rattle.sdb_store.specs.FaultPlans.{Held}
use Rattle.sdb_shards.specs.declared.part.Part.{Part}
use Rattle.sdb_shards.specs.declared.part.Part.TheVariants as part
use Rattle.sdb_stores.specs.Views.{Attached, StoreView, names_of}
use Rattle.sdb_app.specs.declared.status.Status.{Status}
use Rattle.sdb_app.specs.Ends.{Ends, Stream}
use Rattle.sdb_app.specs.Promise.{HasEnded}

-- a store that holds nothing, and of which no call was made
abbrev pub new_store : List ℕ → StoreView
new_store name = record { name = name; contents = empty; faults = 0; calls = 0 }

-- the program's own stores, as they are attached
abbrev pub own_stores : List StoreView
own_stores = new_store (codes "ordered") ∷ new_store (codes "hashed") ∷ new_store (codes "sqlite") ∷ new_store (codes "sharded") ∷ []

-- a store in memory that holds nothing, and that never fails
abbrev pub new_held : Held
new_held = record { contents = empty; failing = []; made = 0; failed = 0 }

-- the boxes of the last of them
abbrev pub own_boxes : List Part
own_boxes = part.Ordered new_held ∷ part.Hashed new_held ∷ part.Ordered new_held ∷ []

-- what its registry shows at the entry: no place, and stores of known contents
abbrev pub own_attached : Attached
own_attached = record { places = []; views = own_stores; known = λ at. at < 4 }

-- the same, after other stores, whose contents are not known
abbrev pub attached_over : List StoreView → Attached
attached_over files = record { places = []; views = files ++ own_stores; known = λ at. (length files ≤ at) × (at < length files + 4) }

-- What a call is handed beside its stores, before and after it: the input, the output, and the answers that the clock and the ids gave,
-- where these are known.
pub record Outside : Type 0 where
  pub input : Stream
  pub rest : Stream
  pub output : Stream
  pub written : Stream
  pub clock : Option (List ℤ)
  pub clock_then : Option (List ℤ)
  pub ids : Option (List ℕ)
  pub ids_then : Option (List ℕ)

abbrev pub outside : {R W C I : Type 0} → (R → Stream) → (W → Stream) → (C → Option (List ℤ)) → (I → Option (List ℕ)) → R → R → W → W → C → C → I → I → Outside
outside input output clock ids r0 r1 w0 w1 c0 c1 i0 i1 =
    record { input = input r0; rest = input r1; output = output w0; written = output w1; clock = clock c0; clock_then = clock c1; ids = ids i0; ids_then = ids i1 }

-- a call on stores that showed this before it, and hold this after it
abbrev pub ends_on : Attached → List StoreView → Outside → Ends
ends_on stores left o =
    record { work = record { old = stores; left = left; input = o.input; rest = o.rest }; output = o.output; written = o.written; clock = o.clock; clock_then = o.clock_then; ids = o.ids; ids_then = o.ids_then }

-- A call of the program on these words and stores ends so, with what it is handed beside them before and after it.
abbrev pub HasEndedOn : Attached → List (List ℕ) → Outside → Status → Type 0
HasEndedOn stores words o s = (left : List StoreView) × HasEnded words (ends_on stores left o) s

-- The same on the program's own stores after others of these names.
abbrev pub HasEndedOver : List (List ℕ) → List (List ℕ) → Outside → Status → Type 0
HasEndedOver names words o s = (files : List StoreView) × (names_of files ≡ names) × HasEndedOn (attached_over files) words o s
