-- A store over several boxes as its callers see it.
use Rattle.std.specs.Prelude.{◌≡◌, ℕ, List, length}
use Rattle.std.specs.BTreeMap.{BTreeMap, get}
use Rattle.sdb_types.specs.declared.key.Key.{Key}
use Rattle.sdb_types.specs.Order.{key_cmp}
use Rattle.sdb_types.specs.Contents.{Contents}
use Rattle.sdb_store.specs.Store.{StoreState}
use Rattle.sdb_shards.specs.declared.part.Part.{Part}
use Rattle.sdb_shards.specs.declared.shards.Shards.{Shards}
use Rattle.sdb_shards.specs.Boxes.{HaveGrown, held_in, sharded}
use Rattle.sdb_shards.specs.Homes.{home_of}

-- what boxes hold together after moves
abbrev pub whole : BTreeMap Key ℕ → List Part → Contents
whole moved boxes = sharded (home_of (get key_cmp moved) (length boxes)) (held_in boxes)

-- the home of a record, or of a partition by its key
abbrev pub home_in : Shards → Key → ℕ
home_in shards key = home_of (get key_cmp shards.moved) (length shards.boxes) key

-- exactly the records that a box holds and whose home it is
abbrev pub contents_in : Shards → Contents
contents_in shards = whole shards.moved shards.boxes

-- Its contents are always known.
abbrev pub state_of : Shards → StoreState
state_of shards = record { known = Unit {0}; contents = contents_in shards; faults = shards.faults; calls = shards.calls }

-- The store shows what it showed before: its contents, and how many calls were made and have failed. No count of failures of a box fell.
pub record ShowsSame (old new : Shards) : Type 0 where
  pub contents : contents_in new ≡ contents_in old
  pub calls : new.calls ≡ old.calls
  pub faults : new.faults ≡ old.faults
  pub grown : HaveGrown old.boxes new.boxes
