-- A batch put into rows in memory, one record after another, and taken back where memory runs out.
use Rattle.std.specs.Prelude.{◌≡◌, ◌≤◌, ℕ, Bool, if◌then◌else◌, List, map, take, length, Option, Some, None, is_some, Vec}
use Rattle.std.specs.declared.alloc.Global.{Global}
use Rattle.std.specs.FinMap.{get, insert, remove}
use Rattle.sdb_types.specs.declared.record.Put.{Put}
use Rattle.sdb_types.specs.declared.record.Record.{Record}
use Rattle.sdb_types.specs.Contents.{Contents, record_at, unmet_from, all_put}
use Rattle.sdb_store.specs.declared.batch.Checked.{Checked}
use Rattle.sdb_store.specs.declared.batch.Checked.TheVariants.{Met, Unmet}

-- the contents with a record over the one at its key, if there is one
abbrev pub replaced : Record → Contents → Contents
replaced r m = if is_some (get m r.key) then insert m r.key r.columns else m

-- the contents with what was found at the key of a put there again
abbrev pub restored : Put → Option Record → Contents → Contents
restored p None m = remove m p.rec.key
restored p (Some r) m = replaced r m

-- what is at the keys of puts
abbrev pub found_at : List Put → Contents → List (Option Record)
found_at b m = map (λ p. record_at m p.rec.key) b

-- What is at each key, where each condition holds of it, or the place of the first put whose condition fails, with what is at its key.
abbrev pub IsChecked : List Put → Contents → Checked → Type 0
IsChecked b m (Met found) = (found.items ≡ found_at b m) × (unmet_from 1 b m ≡ None)
IsChecked b m (Unmet place found) = unmet_from 1 b m ≡ Some (place, found)

-- As many puts were put as there are records or none in the list, which has what was there before.
pub record ArePut (b : List Put) (found : List (Option Record)) (before now : Contents) : Type 0 where
  pub few : length found ≤ length b
  pub there : found ≡ found_at (take (length found) b) before
  pub left : now ≡ all_put (take (length found) b) before
