-- Writes on stores, and what each store then holds.
use Rattle.std.specs.Prelude.{◌≡◌, ◌⊎◌, ◌==◌, ◌≤◌, ℕ, List, [], ◌∷◌, ◌++◌, true, map, take, Option, Some, None, slice_get, if◌then◌else◌}
use Rattle.std.specs.FinMap.{empty}
use Rattle.sdb_contents.specs.Types.{Record, Request, Span, TableName}
use Rattle.sdb_types.specs.Contents.{Contents, after, are_rows_of, rows_in}
use Rattle.sdb_stores.specs.Views.{Attached, StoreView, names_of, total_faults}

abbrev pub contents_of : Option StoreView → Contents
contents_of None = empty
contents_of (Some s) = s.contents

-- what the store at an index holds
abbrev pub contents_at : List StoreView → ℕ → Contents
contents_at store_contents i = contents_of (slice_get store_contents i)

-- a request to the store at an index
pub record Write : Type 0 where
  pub at : ℕ
  pub request : Request

abbrev pub write_at : ℕ → Request → Write
write_at at request = record { at = at; request = request }

-- some requests to one store
abbrev pub writes_at : ℕ → List Request → List Write
writes_at at requests = map (write_at at) requests

-- what the store at an index holds after a request
abbrev pub after_write : ℕ → Write → Contents → Contents
after_write i w m = if w.at == i then after w.request m else m

-- what it holds after requests to stores, one after the other
abbrev pub after_writes : ℕ → List Write → Contents → Contents
after_writes i [] m = m
after_writes i (w ∷ ws) m = after_writes i ws (after_write i w m)

-- The stores and their places stay, no count of failures falls, and known contents stay known.
pub record GoOn (old new : Attached) : Type 0 where
  pub names : names_of new.views ≡ names_of old.views
  pub places : new.places ≡ old.places
  pub counted : total_faults old.views ≤ total_faults new.views
  pub where_known : (i : ℕ) → old.known i → new.known i

-- Each store of known contents holds what these writes leave.
abbrev pub Hold : List Write → Attached → Attached → Type 0
Hold ws old new = (i : ℕ) → old.known i → contents_at new.views i ≡ after_writes i ws (contents_at old.views i)

-- Each store of known contents holds what it held, or what this write leaves.
abbrev pub MayHold : Write → Attached → Attached → Type 0
MayHold w old new =
    (i : ℕ) → old.known i → (contents_at new.views i ≡ contents_at old.views i) ⊎ (contents_at new.views i ≡ after_write i w (contents_at old.views i))

-- Each store of known contents holds what the first of these writes leave, or what one more leaves.
pub record HoldFirst (ws : List Write) (old new : Attached) : Type 0 where
  pub done : List Write
  pub later : List Write
  pub parts : ws ≡ done ++ later
  pub held : (i : ℕ) → old.known i → (contents_at new.views i ≡ after_writes i done (contents_at old.views i)) ⊎ (contents_at new.views i ≡ after_writes i (done ++ take 1 later) (contents_at old.views i))

-- the whole of a table
abbrev pub span_of : TableName → Span
span_of table = record { table = table; partition = None }

-- The store at an index showed these rows of a table: all that it holds there, where its contents are known.
pub record IsScanned (at : ℕ) (table : TableName) (rows : List Record) (old : Attached) : Type 0 where
  pub lawful : are_rows_of (span_of table) rows ≡ true
  pub known : old.known at → rows ≡ rows_in (span_of table) (contents_at old.views at)
