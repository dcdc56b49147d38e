use Rattle.std.proofs.Common.{◌≡◌, ◌++◌, take}
use Rattle.std.specs.Prelude.{flat_map}
use Rattle.sdb_contents.specs.Copying.{delete_of}
use Rattle.sdb_contents.proofs.retire_write.push_deletes.Given as goal

abbrev pub invariant-loop-row : goal.invariant-loop-row
invariant-loop-row l = l.requests ≡ l.initial.requests ++ flat_map delete_of (take l.row-index l.rows)
