use Rattle.std.proofs.Common.{◌≡◌, ◌++◌, take, map}
use Rattle.sdb_contents.specs.Copying.{put_of}
use Rattle.sdb_contents.proofs.retire_write.push_puts.Given as goal

abbrev pub invariant-loop-row : goal.invariant-loop-row
invariant-loop-row l = l.requests ≡ l.initial.requests ++ map put_of (take l.row-index l.rows)
