-- A partition that was moved, or was not.
use Rattle.std.specs.Prelude.{◌≡◌, ◌≢◌, ◌==◌, ◌≤◌, ℕ, if◌then◌else◌, List, length}
use Rattle.sdb_types.specs.declared.key.Key.{Key}
use Rattle.sdb_types.specs.declared.record.Record.{Record}
use Rattle.sdb_types.specs.Contents.{in_span, rows_in}
use Rattle.sdb_shards.specs.declared.refused.MoveRefused.{MoveRefused}
use Rattle.sdb_shards.specs.declared.shards.Shards.{Shards}
use Rattle.sdb_shards.specs.Boxes.{HaveRisen, contents_at}
use Rattle.sdb_shards.specs.Homes.{span_of}
use Rattle.sdb_shards.specs.Moves.{AreFree, IsBlocked, IsRefusal}
use Rattle.sdb_shards.specs.Whole.{home_in}

-- the records of a partition, which is given by its key, in a box
abbrev pub rows_of : Shards → Key → ℕ → List Record
rows_of shards key at = rows_in (span_of key) (contents_at shards.boxes at)

-- A partition, which is given by its key, has another box as its home, to which so many records were copied, or has that home already.
pub record IsMove (key : Key) (to : ℕ) (old new : Shards) (copies : ℕ) : Type 0 where
  pub count : copies ≡ (if home_in old key == to then 0 else length (rows_of old key (home_in old key)))
  pub homes : (k : Key) → home_in new k ≡ (if in_span (span_of key) k then to else home_in old k)
  pub free : home_in old key ≢ to → AreFree (rows_of old key (home_in old key)) (rows_of old key to)

-- Why a partition was not moved. No home changed.
pub record IsNotMoved (key : Key) (to : ℕ) (old new : Shards) (e : MoveRefused) : Type 0 where
  pub why : IsRefusal (length old.boxes ≤ to) (HaveRisen old.boxes new.boxes) (IsBlocked (rows_of old key (home_in old key)) (rows_of old key to)) e
  pub homes : (k : Key) → home_in new k ≡ home_in old k
